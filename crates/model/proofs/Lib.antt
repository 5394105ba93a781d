-- Demand 3. Figures to Phases: the words laid down keep every rule. Access to Unopened: a request opens within its bound, whatever choice
-- keeps the laws of Choice. Going joins the two. Image and Represents: a controller's state stands for how far the calls have come. Runs:
-- what every list of calls keeps, over the choice. Oldest: the choice of the present controller, and Demand3: its theorem.
pub mod Places
pub mod Figures
pub mod Candidates
pub mod Spacings
pub mod Intervals
pub mod InTime
pub mod Turn
pub mod StartUp
pub mod Phases
pub mod Access
pub mod Prompt
pub mod Choice
pub mod Soonest
pub mod Punctual
pub mod Offers
pub mod Bounds
pub mod Unopened
pub mod Fulfilled
pub mod Opened
pub mod Going
pub mod Offered
pub mod Image
pub mod Represents
pub mod Runs
pub mod Oldest
pub mod Demand3
