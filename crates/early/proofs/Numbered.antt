-- No rule has the number 0.
use Rattle.std.proofs.Common.{◌≡◌, arith}
use Rattle.std.proofs.lemmas.Grind.{common_steps}
use Rattle.early.specs.Answers.{rule_number}
use Rattle.early.specs.declared.rule.Rule.{Rule}

pub numbered : (r : Rule) → rule_number r ≡ 0 → ⊥
numbered r e = grind (arith, common_steps)
