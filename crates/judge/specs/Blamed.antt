-- What `blame` answers where a document stops: a number from CHAR to END with its place, and no second value. Assumes nothing.
use Rattle.std.specs.Prelude.{◌≡◌, List, ℕ}
use Rattle.language.specs.Answered.{Answer, number, value, second, Stops}

pub record Blamed (doc : List ℕ) (a : Answer) : Type 0 where
  pub stops : Stops doc (number a) (value a)
  pub alone : second a ≡ 0
