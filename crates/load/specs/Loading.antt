-- WHAT `load` PROMISES, from what testing tells of the stored bytes (`Told`) and what filling leaves in the rooms (`Filled`). Assumes nothing.
use Rattle.std.specs.Prelude.{◌≡◌, List, ◌++◌, ℕ, ◌+◌, ◌*◌, ◌/◌, ◌≤◌, ◌<◌, Option, Some, None}
use Rattle.std.proofs.Common.{sym, subst, ◌∙◌, append-nil, rules}
use Rattle.std.proofs.Math.Path.{ap, subst₂}
use native.Mathlib.Omega.{arith}
use Rattle.std.proofs.Math.ListN.{length, drop}
use Rattle.std.proofs.lemmas.List.Edits.{sets, sets-eq}
use Rattle.language.specs.Tree.{Tree, unlined, width, size, text_of, rows_of}
use Rattle.language.specs.Answered.{ROWS, TEXT}
use Rattle.language.specs.Lent.{lent, words_in, bytes_in}
use Rattle.rooms.specs.Forest.{length_rows}
use Rattle.shaped.specs.Bare.{alike_size}
use Rattle.stored.specs.Form.{loaded}
use Rattle.stored.specs.Unspanned.{placed_like}
use Rattle.stored.specs.declared.Loaded.{Loaded}
use Rattle.stored.specs.Loaded.{BADFORM, Kept, Loads, bad_form}
use Rattle.stored.specs.Answering.{Found}
use Rattle.stored.proofs.AnsweringLaws.{load_rows, load_text, load_done}

-- the tree that the stored bytes hold, with its count of rows and of text bytes
pub record Held (stored : List ℕ) (n b : ℕ) : Type 0 where
  pub tree : Tree
  pub found : Found stored tree
  pub rows : size tree ≡ n
  pub bytes : length (text_of tree) ≡ b
  pub few : length stored ≤ lent

-- WHAT TESTING THE WHOLE TELLS: nothing if the bytes are no stored form, else the rows and the text bytes of the tree that they hold
pub data Told (stored : List ℕ) : Option Loaded → Type 0 where
  untold : ((t : Tree) → Kept stored t → ⊥) → Told stored None
  told : {d : Loaded} → Held stored d.rows.0 d.bytes → Told stored (Some d)

-- ASKED of filling: the bytes hold a tree, whose text has room in w bytes
pub record Asked (stored : List ℕ) (w : ℕ) : Type 0 where
  pub tree : Tree
  pub found : Found stored tree
  pub few : length stored ≤ lent
  pub room : length (text_of tree) ≤ w

-- WHAT FILLING LEAVES: the rows and the text of the tree that was loaded stand at the start of the rooms
pub record Filled (t : Tree) (table table' text text' : List ℕ) : Type 0 where
  pub rows : table' ≡ sets table 0 (rows_of unlined 0 0 0 (loaded t))
  pub bytes : text' ≡ sets text 0 (text_of t)

loaded_size : (t : Tree) → size (loaded t) ≡ size t
loaded_size t = alike_size (loaded t) t (placed_like (λ i. i) t)

module _ (stored : List ℕ) where
  bad_told : Told stored None → (t : Tree) → Kept stored t → ⊥
  bad_told (untold f) = f

  good_told : {d : Loaded} → Told stored (Some d) → Held stored d.rows.0 d.bytes
  good_told (told h) = h

  pub told_bad : (table text : List ℕ) → Told stored None → Loads stored table text BADFORM 0 0 table text
  told_bad table text w = bad_form (bad_told w)

  module _ (d : Loaded) (w : Told stored (Some d)) where
    abbrev n : ℕ
    n = d.rows.0

    abbrev b : ℕ
    b = d.bytes

    held : Held stored n b
    held = good_told w

    -- the text is asked for where the rooms lent are counted
    asked : (text : List ℕ) → length (text_of held.tree) ≤ length text → Asked stored (length text)
    asked text l = record { tree = held.tree; found = held.found; few = held.few; room = l }

    pub told_asked : (text : List ℕ) (o : ℕ) → o ≡ bytes_in text → b ≤ o → Asked stored (length text)
    told_asked text o j l = asked text (omega (arith, held.bytes))

    module _ (m : ℕ) (table : List ℕ) (f : m ≡ words_in table / width) (text : List ℕ) where
      pub told_rows : m < n → Loads stored table text ROWS n 0 table text
      told_rows l = subst (λ (i : ℕ). Loads stored table text ROWS i 0 table text) held.rows (load_rows held.tree held.found held.few (omega (arith, held.rows)))

      module _ (i : n ≤ m) (o : ℕ) (j : o ≡ bytes_in text) where
        rows_fit : width * size held.tree ≤ words_in table
        rows_fit = omega (arith, held.rows)

        pub told_text : o < b → Loads stored table text TEXT b 0 table text
        told_text l =
            subst (λ (k : ℕ). Loads stored table text TEXT k 0 table text) held.bytes (load_text held.tree held.found held.few rows_fit (omega (arith, held.bytes)))

        pub told_done : b ≤ o → (table' text' : List ℕ) → ((k : Asked stored (length text)) → Filled k.tree table table' text text') → Loads stored table text 0 n b table' text'
        unfolding asked
        told_done l table' text' q =
            let s = held in
            let t = s.tree in
            let z : Filled t table table' text text' = q (asked text (omega (arith, s.bytes))) in
            let rows = rows_of unlined 0 0 0 (loaded t) in
            let c : 0 + length rows ≡ width * size t = omega (arith, length_rows unlined 0 0 0 (loaded t), loaded_size t) in
            let d : 0 + length (text_of t) ≡ length (text_of t) = omega arith in
            let x : table' ≡ rows ++ drop (width * size t) table = z.rows ∙ (sets-eq rows table 0 (omega (arith, rows_fit)) ∙ ap (λ (k : ℕ). rows ++ drop k table) c) in
            let y : text' ≡ text_of t ++ drop (length (text_of t)) text = z.bytes ∙ (sets-eq (text_of t) text 0 (omega (arith, s.bytes)) ∙ ap (λ (k : ℕ). text_of t ++ drop k text) d) in
            let k : Loads stored table text 0 (size t) (length (text_of t)) table' text' = rw (x, y) (load_done t s.found s.few rows_fit (omega (arith, s.bytes))) in
            subst₂ (λ (u v : ℕ). Loads stored table text 0 u v table' text') s.rows s.bytes k

pub ruleset loading = (told_bad, told_rows, told_text, told_asked, told_done, rules)
