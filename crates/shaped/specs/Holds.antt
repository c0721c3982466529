-- WHAT A SOUND TABLE HOLDS: the rows of its tree stand from row 0 on (`holds_at`), two such trees are alike (`sound_tree`), and what acceptance leaves is sound (`read_sound`, `accepted_sound`). Assumes nothing.
use Rattle.std.specs.Prelude.{◌≡◌, refl, List, ◌++◌, ℕ, ◌+◌, ◌*◌, ◌≤◌, ◌<◌, length, drop}
use Rattle.std.proofs.Common.{arith, length-append}
use Rattle.language.specs.Tree.{Positions, unlined, Tree, width, size, text_of, rows_of}
use Rattle.language.specs.Lines.{lines_of}
use Rattle.language.specs.Lent.{lent, words_in}
use Rattle.language.specs.Answered.{deepest, Stops, char, syntax, deep, end, Reads, Answered, accepted, long, stopped, repeated, rows, bytes}
use Rattle.language.specs.Alike.{Alike}
use Rattle.language.specs.Sound.{Profile, Holds, Sound}
use Rattle.rooms.specs.Forest.{length_rows}
use Rattle.spans.proofs.DocumentLaws.{few_rows, few_text}
use Rattle.shaped.specs.Shaped.{Shaped}
use Rattle.shaped.specs.Document.{document_shaped}
use Rattle.shaped.specs.Asked.{same_self, same_left, same_then}
use Rattle.shaped.specs.TextAt.{text_front}
use Rattle.shaped.specs.RowsAt.{RowsAt}
use Rattle.shaped.specs.Bare.{alike_rows}
use Rattle.shaped.specs.Told.{rows_tell}

pub profile_shaped : {t : Tree} → Profile t → Shaped deepest t
profile_shaped {t} p = document_shaped deepest p.document t p.word

module _ {table text : List ℕ} {n : ℕ} {t : Tree} where
  pub holds_at : Holds table n text t → RowsAt table text 0 0 0 t
  holds_at h =
      record {
        rows = record { words = λ i j l a. h.row i j (omega (arith, h.count)) a };
        text_is = record { fits = omega (arith, h.text_fits); is = h.text_is };
      }

  pub at_holds : Profile t → size t ≡ n → width * n ≤ words_in table → RowsAt table text 0 0 0 t → Holds table n text t
  at_holds p e f h =
      record {
        profile = p;
        count = e;
        rows_fit = f;
        row = λ r j l a. h.rows.words r j (omega arith) a;
        text_fits = omega (arith, h.text_is.fits);
        text_is = h.text_is.is;
      }

-- "spans aside": a table holds one tree only
pub sound_tree : (table : List ℕ) (n : ℕ) (text : List ℕ) (t u : Tree) → Holds table n text t → Holds table n text u → Alike t u
sound_tree table n text t u h k = rows_tell table text (profile_shaped h.profile) (profile_shaped k.profile) (holds_at h) (holds_at k)

-- a tree's rows, with any lines and columns, and its text, at the start of rooms
module _ (t : Tree) (L : Positions) (others rest : List ℕ) where
  pub stored_at : length (text_of t) ≤ lent → RowsAt (rows_of L 0 0 0 t ++ others) (text_of t ++ rest) 0 0 0 t
  stored_at h =
      let w = rows_of L 0 0 0 t in
      let e : size t + 0 ≡ size t = omega arith in
      record {
        rows = same_then (same_left w others (size t) 0 (length_rows L 0 0 0 t) (same_self (w ++ others) (size t + 0))) (alike_rows t t refl L unlined 0 0 0);
        text_is = text_front (text_of t) rest h;
      }

  pub stored_holds : Profile t → size t ≤ lent → length (text_of t) ≤ lent → Holds (rows_of L 0 0 0 t ++ others) (size t) (text_of t ++ rest) t
  stored_holds p h k = at_holds p refl (omega (arith, length-append (rows_of L 0 0 0 t) others, length_rows L 0 0 0 t)) (stored_at k)

-- WHAT ACCEPTANCE LEAVES is sound
module _ (doc : List ℕ) (t : Tree) (reads : Reads doc t) where
  reads_profile : Profile t
  reads_profile = record { document = doc; word = reads.word; once = reads.once }

  pub read_holds : (table text : List ℕ)
      → Holds (rows_of (lines_of doc) 0 0 0 t ++ drop (width * size t) table) (size t) (text_of t ++ drop (length (text_of t)) text) t
  read_holds table text =
      let f = few_rows deepest doc t reads.word in
      let g = few_text deepest doc t reads.word in
      stored_holds t (lines_of doc) (drop (width * size t) table) (drop (length (text_of t)) text) reads_profile (omega (arith, reads.short)) (omega (arith, reads.short))

  pub read_sound : (table text : List ℕ)
      → Sound (rows_of (lines_of doc) 0 0 0 t ++ drop (width * size t) table) (size t) (text_of t ++ drop (length (text_of t)) text)
  read_sound table text = record { tree = t; holds = read_holds table text }

-- a stop has a number
stops_some : {doc : List ℕ} {n p : ℕ} → Stops doc n p → 0 < n
stops_some (char p h v b) = omega arith
stops_some (syntax p h v b c) = omega arith
stops_some (deep p k h v b c) = omega arith
stops_some (end v b) = omega arith

-- "acceptance" is the number 0: the document's tree stands in the rooms
pub record Read (doc table : List ℕ) (n : ℕ) (text : List ℕ) : Type 0 where
  pub tree : Tree
  pub reads : Reads doc tree
  pub holds : Holds table n text tree

pub accepted_holds : {doc table text : List ℕ} {c n m : ℕ} {table' text' : List ℕ} → Answered doc table text c n m table' text' → c ≡ 0 → Read doc table' n text'
accepted_holds {table = table} {text = text} (accepted t reads h k) e = record { tree = t; reads = reads; holds = read_holds _ t reads table text }
accepted_holds (long h) e = absurd (omega arith)
accepted_holds (stopped n p h s) e = absurd (omega (arith, stops_some s))
accepted_holds (repeated t p h d r f) e = absurd (omega arith)
accepted_holds (rows t reads h) e = absurd (omega arith)
accepted_holds (bytes t reads h k) e = absurd (omega arith)

pub accepted_sound : {doc table text : List ℕ} {c n m : ℕ} {table' text' : List ℕ} → Answered doc table text c n m table' text' → c ≡ 0 → Sound table' n text'
accepted_sound x e = let r = accepted_holds x e in record { tree = r.tree; holds = r.holds }
