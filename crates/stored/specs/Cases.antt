-- THE CASE OF AN ANSWER is told by its number and its values: so `store` and `load` have one answer as enums too. Assumes nothing.
use Rattle.std.specs.Prelude.{◌≡◌, refl, List, ℕ, eqb, Result, Ok, Err}
use Rattle.std.proofs.Common.{sym, ◌∙◌}
use Rattle.notation.specs.Class.{pick}
use Rattle.language.specs.Answered.{BADROW, ROWS}
use Rattle.stored.specs.declared.StoreRefusal.{StoreRefusal}
use Rattle.stored.specs.declared.StoreRefusal.TheVariants as S
use Rattle.stored.specs.declared.Loaded.{Loaded}
use Rattle.stored.specs.declared.LoadRefusal.{LoadRefusal}
use Rattle.stored.specs.declared.LoadRefusal.TheVariants as L
use Rattle.stored.specs.Stored.{storing_number, storing_count, Stores}
use Rattle.stored.specs.Loaded.{BADFORM, loading_number, loading_value, loading_second, Loads}
use Rattle.stored.specs.Unique.{one_store}

storing_of : ℕ → ℕ → Result ℕ StoreRefusal
storing_of n c = pick (eqb n 0) (Ok c) (pick (eqb n BADROW) (Err S.BadRow) (Err (S.TooShort c)))

is_storing : (a : Result ℕ StoreRefusal) → storing_of (storing_number a) (storing_count a) ≡ a
unfolding storing_of
is_storing (Ok n) = refl
is_storing (Err S.BadRow) = refl
is_storing (Err (S.TooShort n)) = refl

storing_tells : (a b : Result ℕ StoreRefusal) → storing_number a ≡ storing_number b → storing_count a ≡ storing_count b → a ≡ b
storing_tells a b n c = sym (is_storing a) ∙ (rw (n, c) refl ∙ is_storing b)

pub loading_of : ℕ → ℕ → ℕ → Result Loaded LoadRefusal
loading_of n v s =
    pick (eqb n 0) (Ok (record { rows = record { 0 = v }; bytes = s })) (pick (eqb n BADFORM) (Err L.BadForm) (pick (eqb n ROWS) (Err (L.Rows (record { 0 = v }))) (Err (L.Text v))))

pub is_loading : (a : Result Loaded LoadRefusal) → loading_of (loading_number a) (loading_value a) (loading_second a) ≡ a
unfolding loading_of
is_loading (Ok d) = refl
is_loading (Err L.BadForm) = refl
is_loading (Err (L.Rows n)) = refl
is_loading (Err (L.Text m)) = refl

pub loading_tells : (a b : Result Loaded LoadRefusal) → loading_number a ≡ loading_number b → loading_value a ≡ loading_value b → loading_second a ≡ loading_second b → a ≡ b
loading_tells a b n v s = sym (is_loading a) ∙ (rw (n, v, s) refl ∙ is_loading b)

-- ONE ANSWER as `store` has it, and as `load` has it
pub one_storing : {table : List ℕ} {n : ℕ} {text out : List ℕ} (a b : Result ℕ StoreRefusal) {out' out'' : List ℕ} → Stores table n text out (storing_number a) (storing_count a) out'
    → Stores table n text out (storing_number b) (storing_count b) out'' → (a ≡ b) × (out' ≡ out'')
one_storing a b x y = let e = one_store x y in (storing_tells a b e.0 e.1, e.2)
