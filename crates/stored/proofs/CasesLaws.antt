-- THE CASE OF AN ANSWER is told by its number and its values: so `store` and `load` have one answer as enums too. Assumes nothing.
use Rattle.std.specs.Prelude.{◌≡◌, List, ℕ, Result}
use Rattle.stored.specs.declared.Loaded.{Loaded}
use Rattle.stored.specs.declared.LoadRefusal.{LoadRefusal}
use Rattle.stored.specs.Loaded.{loading_number, loading_value, loading_second, Loads}
use Rattle.stored.proofs.UniqueLaws.{one_load}
use Rattle.stored.specs.Cases.{loading_tells}

pub one_loading : {stored table text : List ℕ} (a b : Result Loaded LoadRefusal) {table' text' table'' text'' : List ℕ} → Loads stored table text (loading_number a) (loading_value a) (loading_second a) table' text'
    → Loads stored table text (loading_number b) (loading_value b) (loading_second b) table'' text'' → (a ≡ b) × (table' ≡ table'') × (text' ≡ text'')
one_loading a b x y = let e = one_load x y in (loading_tells a b e.0 e.1 e.2, e.3, e.4)
