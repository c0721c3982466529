-- ONE ANSWER: the promise of storing admits one (`one_store`), and that of loading (`one_load`): number, values and every word and byte of the rooms. Assumes nothing.
use Rattle.std.specs.Prelude.{◌≡◌, refl, List, ◌++◌, ℕ, ◌*◌, length, drop}
use Rattle.std.proofs.Common.{ap, ap₂, arith}
use Rattle.language.specs.Tree.{Tree, width, unlined, size, text_of, rows_of}
use Rattle.language.specs.Sound.{Holds}
use Rattle.shaped.specs.Bare.{alike_size, alike_text}
use Rattle.shaped.specs.Holds.{sound_tree}
use Rattle.stored.specs.Form.{form, loaded}
use Rattle.stored.specs.Unspanned.{form_alike, placed_alike}
use Rattle.stored.specs.Stored.{Stores, stores, bad_row, needs}
use Rattle.stored.specs.Loaded.{Kept, Loads, loads, bad_form, rows, bytes}
use Rattle.stored.proofs.KeepsLaws.{kept_alike}

module _ {stored : List ℕ} (t u : Tree) (x : Kept stored t) (y : Kept stored u) where
  same_size : size t ≡ size u
  same_size = alike_size t u (kept_alike x y)

  same_text : text_of t ≡ text_of u
  same_text = alike_text t u (kept_alike x y)

  same_placed : loaded t ≡ loaded u
  same_placed = placed_alike t u (kept_alike x y) (λ i. i)

pub one_load : {stored table text : List ℕ} {c v s c₂ v₂ s₂ : ℕ} {table' text' table'' text'' : List ℕ} → Loads stored table text c v s table' text'
    → Loads stored table text c₂ v₂ s₂ table'' text'' → (c ≡ c₂) × (v ≡ v₂) × (s ≡ s₂) × (table' ≡ table'') × (text' ≡ text'')
one_load {table = table} {text = text} (loads t x l m) (loads u y i j) =
    let e = same_size t u x y in
    let f = same_text t u x y in
    let g : rows_of unlined 0 0 0 (loaded t) ++ drop (width * size t) table ≡ rows_of unlined 0 0 0 (loaded u) ++ drop (width * size u) table =
    ap₂ (λ (w : Tree) (n : ℕ). rows_of unlined 0 0 0 w ++ drop (width * n) table) (same_placed t u x y) e in
    (refl, e, ap length f, g, ap (λ (w : List ℕ). w ++ drop (length w) text) f)
one_load (loads t x l m) (bad_form f) = absurd (f t x)
one_load (loads t x l m) (rows u y i) = absurd (let e = same_size t u x y in omega arith)
one_load (loads t x l m) (bytes u y i j) = absurd (let e = ap length (same_text t u x y) in omega arith)
one_load (bad_form f) (loads u y i j) = absurd (f u y)
one_load (bad_form f) (bad_form g) = (refl, refl, refl, refl, refl)
one_load (bad_form f) (rows u y i) = absurd (f u y)
one_load (bad_form f) (bytes u y i j) = absurd (f u y)
one_load (rows t x l) (loads u y i j) = absurd (let e = same_size t u x y in omega arith)
one_load (rows t x l) (bad_form f) = absurd (f t x)
one_load (rows t x l) (rows u y i) = (refl, same_size t u x y, refl, refl, refl)
one_load (rows t x l) (bytes u y i j) = absurd (let e = same_size t u x y in omega arith)
one_load (bytes t x l m) (loads u y i j) = absurd (let e = ap length (same_text t u x y) in omega arith)
one_load (bytes t x l m) (bad_form f) = absurd (f t x)
one_load (bytes t x l m) (rows u y i) = absurd (let e = same_size t u x y in omega arith)
one_load (bytes t x l m) (bytes u y i j) = (refl, ap length (same_text t u x y), refl, refl, refl)
