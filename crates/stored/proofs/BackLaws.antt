-- WHAT IS LOADED is a sound table (`load_sound`); what was stored is loaded as the same tree, spans aside (`stored_loads`), and what was loaded is stored as the same bytes (`loaded_stores`). Assumes nothing.
use Rattle.std.specs.Prelude.{◌≡◌, refl, List, ◌++◌, ℕ, ◌*◌, ◌≤◌, length, take, drop}
use Rattle.std.proofs.Common.{sym, ap, subst, ◌∙◌, arith, length-append}
use Rattle.std.proofs.Math.Seq.{take-append_seam}
use Rattle.language.specs.Tree.{Tree, width, unlined, size, text_of, rows_of}
use Rattle.language.specs.Lent.{lent, words_in, bytes_in}
use Rattle.language.specs.Alike.{Alike}
use Rattle.language.specs.Sound.{Holds, Sound}
use Rattle.rooms.specs.Forest.{length_rows}
use Rattle.shaped.specs.RowsAt.{RowsAt}
use Rattle.shaped.specs.Bare.{alike_size, alike_text, alike_at}
use Rattle.shaped.specs.Holds.{at_holds, stored_at, sound_tree}
use Rattle.stored.specs.Form.{form, loaded}
use Rattle.stored.proofs.LengthsLaws.{few_rows, few_text}
use Rattle.stored.specs.Unspanned.{form_alike, placed_like}
use Rattle.stored.specs.Stored.{Stores, stores, bad_row, needs}
use Rattle.stored.specs.Loaded.{Kept, Loads, loads, bad_form, rows, bytes}
use Rattle.stored.specs.Keeps.{kept_shaped}
use Rattle.stored.proofs.KeepsLaws.{kept_alike}
use Rattle.stored.specs.Unique.{one_store}
use Rattle.stored.proofs.UniqueLaws.{one_load}
use Rattle.stored.specs.Back.{Filled, ReadBack, StoredBack, kept_form_few, stored_kept}

-- the rows with the spans of the stored bytes, and the text, at the start of rooms, hold the tree itself
pub kept_holds : {stored : List ℕ} (t : Tree) (others rest : List ℕ) → Kept stored t → Holds (rows_of unlined 0 0 0 (loaded t) ++ others) (size t) (text_of t ++ rest) t
kept_holds t others rest x =
    let p = loaded t in
    let a = placed_like (λ i. i) t in
    let e = alike_size p t a in
    let f = alike_text p t a in
    let l = kept_form_few x in
    let few = few_rows t (kept_shaped x) l in
    let short = few_text t (kept_shaped x) l in
    let w = rows_of unlined 0 0 0 p ++ others in
    let h : RowsAt w (text_of p ++ rest) 0 0 0 p = stored_at p unlined others rest (omega (arith, ap length f)) in
    let k : RowsAt w (text_of t ++ rest) 0 0 0 p = subst (λ (s : List ℕ). RowsAt w (s ++ rest) 0 0 0 p) f h in
    at_holds x.holds.profile refl (omega (arith, length-append (rows_of unlined 0 0 0 p) others, length_rows unlined 0 0 0 p)) (alike_at p t a w (text_of t ++ rest) k)

pub loaded_holds : {stored table text : List ℕ} {c n m : ℕ} {table' text' : List ℕ} → Loads stored table text c n m table' text' → c ≡ 0 → Filled stored table' n text'
loaded_holds {table = table} {text = text} (loads t x l m) e = record { tree = t; kept = x; holds = kept_holds t (drop (width * size t) table) (drop (length (text_of t)) text) x }
loaded_holds (bad_form f) e = absurd (omega arith)
loaded_holds (rows t x l) e = absurd (omega arith)
loaded_holds (bytes t x l m) e = absurd (omega arith)

-- A TABLE THAT LOADING FILLED is sound
pub load_sound : {stored table text : List ℕ} {n m : ℕ} {table' text' : List ℕ} → Loads stored table text 0 n m table' text' → Sound table' n text'
load_sound x = let r = loaded_holds x refl in record { tree = r.tree; holds = r.holds }

pub stored_loads : {table : List ℕ} {n : ℕ} {text out : List ℕ} {b : ℕ} {out' table₂ text₂ : List ℕ} {c v s : ℕ} {table₃ text₃ : List ℕ} (t : Tree) → Stores table n text out 0 b out'
    → Holds table n text t → width * n ≤ words_in table₂ → length (text_of t) ≤ bytes_in text₂ → Loads (take b out') table₂ text₂ c v s table₃ text₃ → ReadBack table n text c v s table₃ text₃
stored_loads {table} {n} {text} {out} {b} {out'} {table₂} {text₂} {c} {v} {s} {table₃} {text₃} t x h l m y =
    let k = stored_kept t x refl h in
    let e = one_load y (loads t k (omega (arith, h.count)) m) in
    let g = kept_holds t (drop (width * size t) table₂) (drop (length (text_of t)) text₂) k in
    record {
      zero_is = e.0;
      rows_are = e.1 ∙ h.count;
      tree = t;
      bytes_are = e.2;
      holds = rw (e.1, e.3, e.4) g;
      alike = λ u i. sound_tree table n text t u h i;
    }

-- whatever the rooms: what stands in a table loaded from it is like what stands in the table stored
pub loaded_like : {table : List ℕ} {n : ℕ} {text out : List ℕ} {b : ℕ} {out' table₂ text₂ : List ℕ} {v s : ℕ} {table₃ text₃ : List ℕ} (t u : Tree) → Stores table n text out 0 b out'
    → Loads (take b out') table₂ text₂ 0 v s table₃ text₃ → Holds table n text t → Holds table₃ v text₃ u → Alike t u
loaded_like {v = v} {table₃ = table₃} {text₃ = text₃} t u x y h k =
    let r = loaded_holds y refl in
    kept_alike (stored_kept t x refl h) r.kept ∙ sound_tree table₃ v text₃ r.tree u r.holds k

pub loaded_stores : {stored table text : List ℕ} {n m : ℕ} {table' text' out : List ℕ} {c b : ℕ} {out' : List ℕ} → Loads stored table text 0 n m table' text' → length stored ≤ bytes_in out
    → Stores table' n text' out c b out' → StoredBack stored c b out'
loaded_stores {stored} {out = out} {b = b} {out' = out'} x l y =
    let r = loaded_holds x refl in
    let t = r.tree in
    let f : form t ≡ stored = r.kept.bytes in
    let e = one_store y (stores t r.holds (omega (arith, ap length f))) in
    let z : take b out' ≡ take (length (form t)) (form t ++ drop (length (form t)) out) = rw (e.1, e.2) refl in
    record { zero_is = e.0; bytes_are = e.1 ∙ ap length f; same = z ∙ (take-append_seam (form t) (drop (length (form t)) out) ∙ f) }
