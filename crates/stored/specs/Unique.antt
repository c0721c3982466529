-- ONE ANSWER: the promise of storing admits one (`one_store`), and that of loading (`one_load`): number, values and every word and byte of the rooms. Assumes nothing.
use Rattle.std.specs.Prelude.{◌≡◌, refl, List, ◌++◌, ℕ, ◌*◌, length, drop}
use Rattle.std.proofs.Common.{ap, ap₂, arith}
use Rattle.language.specs.Tree.{Tree, width, unlined, size, text_of, rows_of}
use Rattle.language.specs.Sound.{Holds}
use Rattle.shaped.specs.Bare.{alike_size, alike_text}
use Rattle.shaped.specs.Holds.{sound_tree}
use Rattle.stored.specs.Form.{form, loaded}
use Rattle.stored.specs.Unspanned.{form_alike, placed_alike}
use Rattle.stored.specs.Stored.{Stores, stores, bad_row, needs}
use Rattle.stored.specs.Loaded.{Kept, Loads, loads, bad_form, rows, bytes}

-- ---- storing

module _ {table : List ℕ} {n : ℕ} {text : List ℕ} where
  -- what one table holds is stored in one way
  same_form : (t u : Tree) → Holds table n text t → Holds table n text u → form t ≡ form u
  same_form t u h k = form_alike t u (sound_tree table n text t u h k)

pub one_store : {table : List ℕ} {n : ℕ} {text out : List ℕ} {c v c₂ v₂ : ℕ} {out' out'' : List ℕ} → Stores table n text out c v out' → Stores table n text out c₂ v₂ out''
    → (c ≡ c₂) × (v ≡ v₂) × (out' ≡ out'')
one_store {out = out} (stores t h l) (stores u k m) = let e = same_form t u h k in (refl, ap length e, ap (λ (w : List ℕ). w ++ drop (length w) out) e)
one_store (stores t h l) (bad_row g) = absurd (g (record { tree = t; holds = h }))
one_store (stores t h l) (needs u k m) = absurd (let e = ap length (same_form t u h k) in omega arith)
one_store (bad_row f) (stores u k m) = absurd (f (record { tree = u; holds = k }))
one_store (bad_row f) (bad_row g) = (refl, refl, refl)
one_store (bad_row f) (needs u k m) = absurd (f (record { tree = u; holds = k }))
one_store (needs t h l) (stores u k m) = absurd (let e = ap length (same_form t u h k) in omega arith)
one_store (needs t h l) (bad_row g) = absurd (g (record { tree = t; holds = h }))
one_store (needs t h l) (needs u k m) = (refl, ap length (same_form t u h k), refl)

-- ---- loading
