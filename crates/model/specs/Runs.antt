-- Lists of calls (RULES 8.7): what a controller comes to, and what is laid down for the same calls.
use Rattle.std.specs.Prelude.{ℕ, ◌+◌, ◌*◌, ◌-◌, max, Bool, true, false, cond, ◌&&◌, List, [], ◌∷◌, ◌++◌, length, ltb}
use Rattle.std.proofs.Math.Option.{Option, none, some}
use Rattle.basics.specs.Numbers.{limit}
use Rattle.basics.specs.Outcome.{Outcome, value, refused}
use Rattle.config.specs.declared.Config.{Config}
use Rattle.config.specs.declared.Timing.{Timing}
use Rattle.writing.specs.Writing.{request_fits}
use Rattle.command.specs.declared.operation.Request.{Request}
use Rattle.command.specs.declared.operation.Operation.{Operation}
use Rattle.command.specs.declared.operation.Operation.TheVariants.{Access, Regular, Extended, Refresh}
use Rattle.rules.specs.Turns.{pairs_of, starts}
use Rattle.model.specs.Laid as laid
use Rattle.controller.specs.States.{fresh}
use Rattle.controller.specs.Steps.{held, offer_of, tick_of}
use Rattle.controller.specs.declared.Controller.{Controller}

-- a call of the list
pub data Call : Type 0 where
  offer : Request → Call
  tick : Call

-- an accepted request, with c, how many ticks were accepted before its offer, and q, how many requests waited just before it
pub record Accepted : Type 0 where
  pub request : Request
  pub ticks : ℕ
  pub ahead : ℕ

-- how far a list of calls has come: the words of the accepted ticks, in order, the first at clock 0; the accepted requests; the
-- controller that the last call handed back
pub record Run : Type 0 where
  pub words : List ℕ
  pub accepted : List Accepted
  pub controller : Controller

-- what a call adds to a list: nothing if it was refused
abbrev pub if_accepted : {A : Type 0} → Outcome (Unit {0}) → A → List A
if_accepted (value u) a = a ∷ []
if_accepted (refused n) a = []

-- one call more, on the controller that the last one handed back
abbrev pub called : Run → Call → Run
called r (offer q) =
    let o = offer_of r.controller q in
    let a : Accepted = record { request = q; ticks = length r.words; ahead = length (held r.controller) } in
    record { words = r.words; accepted = r.accepted ++ if_accepted o.outcome a; controller = o.after }
called r tick =
    let k = tick_of r.controller in
    record { words = r.words ++ if_accepted k.outcome k.word; accepted = r.accepted; controller = k.after }

-- a list of calls more
abbrev pub run_from : Run → List Call → Run
run_from r [] = r
run_from r (x ∷ xs) = run_from (called r x) xs

-- the calls from a fresh controller
abbrev pub run : Config → List Call → Run
run c calls = run_from (record { words = []; accepted = []; controller = fresh c }) calls

-- what is laid down for the calls: the words, and how far they have come
pub record Prescribed : Type 0 where
  pub words : List ℕ
  pub course : laid.Course

-- one call more, where a tick with no pair open chooses the request at place i: an offer is accepted if its request is in range and fewer
-- than sixteen wait, a tick below clock 16,777,216
abbrev pub followed_at : ℕ → Timing → Prescribed → Call → Prescribed
followed_at i t k (offer q) =
    cond (request_fits t q && ltb (length k.course.waiting) 16) (record { words = k.words; course = laid.queued k.course q }) k
followed_at i t k tick =
    let a = laid.tick_at i t k.course in
    cond (ltb (length k.words) limit) (record { words = k.words ++ (a.word ∷ []); course = a.after }) k

-- one call more, of the controller that opens the oldest request
abbrev pub followed : Timing → Prescribed → Call → Prescribed
followed t k x = followed_at 0 t k x

-- a list of calls more
abbrev pub prescribed_from : Timing → Prescribed → List Call → Prescribed
prescribed_from t k [] = k
prescribed_from t k (x ∷ xs) = prescribed_from t (followed t k x) xs

-- what is laid down for a list of calls from power-up
abbrev pub prescribed : Timing → List Call → Prescribed
prescribed t calls = prescribed_from t (record { words = []; course = laid.start }) calls

-- an operation is a request
abbrev pub is_access : Operation → Bool
is_access (Access r) = true
is_access (Regular a3) = false
is_access (Extended v) = false
is_access Refresh = false

-- the pair that is open is a request's
abbrev pub access_open : Option Operation → Bool
access_open none = false
access_open (some o) = is_access o

-- the first words of the accepted requests, oldest first: those of the closed read and write pairs; and if the pair of the oldest waiting
-- request is open at the end, the last word given is its first
abbrev pub first_words : List ℕ → Option Operation → List ℕ
first_words words opened = starts (pairs_of words) ++ cond (access_open opened) ((length words - 1) ∷ []) []

-- the bound on a request's first word: max(c, 201) + (q + 1) × S + RC + REFC
abbrev pub latest_start : Timing → Accepted → ℕ
latest_start t a = max a.ticks 201 + (a.ahead + 1) * t.spacing + t.rc + t.refc
