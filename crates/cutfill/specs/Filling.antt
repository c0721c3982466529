-- FILLING ROOMS FROM A CONTENT THAT IS CUT: what the code of trees in a view is asked (`FillCut`), what it leaves in the rooms (`Fills`), and how that goes on one behind another (`fills_both`). Assumes nothing.
use Rattle.std.specs.Prelude.{◌≡◌, refl, List, ◌++◌, ℕ, ◌+◌, ◌-◌, ◌*◌, ◌≤◌, ◌<◌, length}
use Rattle.std.proofs.Common.{sym, ap, ap₂, ◌∙◌, append-nil, arith}
use Rattle.std.proofs.lemmas.List.Edits.{sets}
use Rattle.std.proofs.Math.Seq.{slice}
use Rattle.language.specs.Tree.{unlined, Tree, Forest, none, more, width, size, sizes, text_of, texts_of, rows_of, rowss}
use Rattle.language.specs.Answered.{deepest}
use Rattle.language.specs.Lent.{lent}
use Rattle.rooms.specs.Contract.{ample}
use Rattle.shaped.specs.Shaped.{Shaped}
use Rattle.shaped.specs.Beside.{beside, beside_size, beside_text}
use Rattle.stored.specs.Form.{forms, form, placed, placeds, loaded}
use Rattle.stored.specs.Bytes.{At}
use Rattle.fields.specs.Puts.{Puts, puts_none, puts_as, puts_then}
use Rattle.views.specs.Views.{viewed, Seen}
use Rattle.views.specs.Extents.{Whole}
use Rattle.uncut.specs.Filling as uncut
use Rattle.uncut.specs.Filling.{trees}
use Rattle.cutfill.specs.Placed.{places, places_later, rows_beside}
use Rattle.cutfill.specs.Trees.{Container, Deeps, trees_beside}

-- ---- ASKED

-- of a row: its places are those of a view, and its numbers fit
pub record Rowed (starts : List ℕ) (d at end r tag parent from to next : ℕ) : Type 0 where
  pub low : d ≤ 34
  pub first : Seen starts d at
  pub some : 1 ≤ end
  pub last : Seen starts d (end - 1)
  pub row : r < ample
  pub kind : tag < ample
  pub above : parent < ample
  pub from_fits : from < ample
  pub to_fits : to < ample
  pub next_fits : next < ample

-- of fields that stand whole in a run, n bytes from p on
pub record Passes (stored : List ℕ) (p n at w r parent x : ℕ) : Type 0 where
  pub inside : p + n ≤ length stored
  pub few : at + n ≤ lent
  pub asked : uncut.FillRoom (slice p (p + n) stored) w p 0 n r parent x

module _ (stored starts : List ℕ) (d : ℕ) where
  -- OF THE FIELDS OF TREES in a view, from a place up to another: containers, places, rows and texts are few
  pub record FillCut (at stop r p x : ℕ) : Type 0 where
    pub trees : Forest
    pub allow : ℕ
    pub deep : d + allow ≤ deepest
    pub kept : Deeps allow trees
    pub here : At (viewed stored starts d) at (forms trees)
    pub total : at + length (forms trees) ≡ stop
    pub inside : stop ≤ length (viewed stored starts d)
    pub few : length stored ≤ lent
    pub few_rows : r + sizes trees ≤ lent
    pub few_text : x + length (texts_of trees) ≤ lent
    pub parent : p ≤ lent

  -- .. whose texts have room in w bytes
  pub record FillRoom (w at stop r p x : ℕ) : Type 0 where
    pub asked : FillCut at stop r p x
    pub room : x + length (texts_of asked.trees) ≤ w

  -- .. and of the first of them, of which this is told
  pub record FillOne (at tag n end r p x : ℕ) : Type 0 where
    pub stop : ℕ
    pub asked : FillCut at stop r p x
    pub told : Whole (viewed stored starts d) at stop tag n end

  pub record FillLeaf (w at tag n end r p x : ℕ) : Type 0 where
    pub one : FillOne at tag n end r p x
    pub other : Container tag → ⊥
    pub room : x + length (texts_of one.asked.trees) ≤ w

  pub record FillNode (w at tag n end r p x : ℕ) : Type 0 where
    pub one : FillOne at tag n end r p x
    pub container : Container tag
    pub room : x + length (texts_of one.asked.trees) ≤ w

-- of the whole: it is the field of a tree, whose text has room in w bytes
pub record FillRoot (stored : List ℕ) (w : ℕ) : Type 0 where
  pub tree : Tree
  pub shaped : Shaped deepest tree
  pub whole : form tree ≡ stored
  pub few : length stored ≤ lent
  pub room : length (text_of tree) ≤ w

-- ---- PROMISED

-- the rows and the texts of the trees as they are placed stand in the rooms, up to row r' and text byte x'; n trees
pub record Fills (ts : Forest) (f : ℕ → ℕ) (r p x r' x' n : ℕ) (table table' text text' : List ℕ) : Type 0 where
  pub row : r' ≡ r + sizes ts
  pub count : n ≡ trees ts
  pub rows : Puts (rowss unlined r p x (placeds f ts)) (width * r) (width * r') table table'
  pub bytes : Puts (texts_of ts) x x' text text'

-- .. those in a run
pub record Passed (stored : List ℕ) (p n at r parent x at' r' x' c : ℕ) (table table' text text' : List ℕ) : Type 0 where
  pub place : at' ≡ at + n
  pub fills : (h : uncut.FillAll (slice p (p + n) stored) p 0 n r parent x) → uncut.FillsAll h.trees (p + 0) r parent x r' x' c table table' text text'

-- .. some of the trees, which are followed by the others
pub record Steps (starts : List ℕ) (d : ℕ) (us : Forest) (at r p x at' r' x' n : ℕ) (table table' text text' : List ℕ) : Type 0 where
  pub front : Forest
  pub rest : Forest
  pub is : us ≡ beside front rest
  pub some : at < at'
  pub ends : at' ≡ at + length (forms front)
  pub fills : Fills front (places starts d at) r p x r' x' n table table' text text'

-- .. the whole tree, as it was loaded, from the start of the rooms on
pub record FilledRooms (t : Tree) (table table' text text' : List ℕ) : Type 0 where
  pub rows : table' ≡ sets table 0 (rows_of unlined 0 0 0 (loaded t))
  pub bytes : text' ≡ sets text 0 (text_of t)

-- ---- none, one, and one behind another

pub fills_none : {f : ℕ → ℕ} {r p x : ℕ} {table text : List ℕ} → Fills none f r p x r x 0 table table text text
unfolding placed rows_of size text_of trees
fills_none = record { row = omega arith; count = refl; rows = puts_none; bytes = puts_none }

pub fills_one : {f : ℕ → ℕ} {r p x r' x' : ℕ} {table table' text text' : List ℕ} (t : Tree) → r' ≡ r + size t → Puts (rows_of unlined r p x (placed f t)) (width * r) (width * r') table table' → Puts (text_of t) x x' text text'
    → Fills (more t none) f r p x r' x' 1 table table' text text'
unfolding placed rows_of size text_of trees
fills_one {f} {r} {p} {x} t e h k =
    record { row = omega arith; count = refl; rows = puts_as (sym (append-nil (rows_of unlined r p x (placed f t)))) h; bytes = puts_as (sym (append-nil (text_of t))) k }

pub fills_both : (starts : List ℕ) (d at : ℕ) {at' : ℕ} {ts us : Forest} {r p x r' x' r'' x'' n m : ℕ} {table table' table'' text text' text'' : List ℕ} → at' ≡ at + length (forms ts) → Fills ts (places starts d at) r p x r' x' n table table' text text'
    → Fills us (places starts d at') r' p x' r'' x'' m table' table'' text' text'' → Fills (beside ts us) (places starts d at) r p x r'' x'' (n + m) table table'' text text''
fills_both starts d at {at'} {ts} {us} {r} {p} {x} {r'} {x'} e h k =
    record {
      row = omega (arith, h.row, k.row, beside_size ts us);
      count = omega (arith, h.count, k.count, trees_beside ts us);
      rows = puts_as (sym split) (puts_then h.rows k.rows);
      bytes = puts_as (sym (beside_text ts us)) (puts_then h.bytes k.bytes);
    }
  where
    later : (λ (i : ℕ). places starts d at (length (forms ts) + i)) ≡ places starts d at'
    later = places_later starts d at (length (forms ts)) ∙ ap (places starts d) (sym e)

    split : rowss unlined r p x (placeds (places starts d at) (beside ts us)) ≡ rowss unlined r p x (placeds (places starts d at) ts) ++ rowss unlined r' p x' (placeds (places starts d at') us)
    split =
        rows_beside (places starts d at) ts us r p x
        ∙ (ap₂ (λ (i j : ℕ). rowss unlined r p x (placeds (places starts d at) ts) ++ rowss unlined i p j (placeds (λ i. places starts d at (length (forms ts) + i)) us)) (sym h.row) (sym h.bytes.ends)
        ∙ ap (λ (g : ℕ → ℕ). rowss unlined r p x (placeds (places starts d at) ts) ++ rowss unlined r' p x' (placeds g us)) later)
