-- FINDING A KEY IN THE RESULT'S TABLE (`overlay_found`): `find` in its row 0 answers the row of the upper's value, or of the lower's where the upper has none, or of the two laid over each other. Assumes nothing.
use Rattle.std.specs.Prelude.{◌≡◌, refl, List, [], ◌∷◌, ◌++◌, true, false, ℕ, ◌+◌, ◌*◌, ◌≤◌, length, drop, Some, None, Ok, Err}
use Rattle.std.proofs.Common.{subst, arith, length-append}
use Rattle.language.specs.Kind.{OBJECT}
use Rattle.language.specs.Tree.{Tree, node, Forest, width, unlined, size, text_of, rows_of}
use Rattle.language.specs.Alike.{unspan}
use Rattle.language.specs.Lent.{words_in, bytes_in}
use Rattle.questions.specs.Walk as questions
use Rattle.questions.specs.Walk.{Found}
use Rattle.rooms.specs.Forest.{length_rows}
use Rattle.found.specs.Objects.{RowOf, own, Pair, pair, Pairs, no_pair, one_pair, ObjectAt, object_at, Holds, held, held_later, NoKey}
use Rattle.found.specs.Stands.{stands_first}
use Rattle.found.proofs.RootedLaws.{value_row}
use Rattle.found.specs.Find.{Filled, Answers, answers}
use Rattle.found.proofs.FindLaws.{find_value}
use Rattle.exact.specs.Class.{clash}
use Rattle.shaped.specs.Shaped as shaped
use Rattle.shaped.specs.Shaped.{Shaped, shaped_leaf, shaped_array, shaped_object}
use Rattle.sound.specs.Members.{Sane}
use Rattle.overlay.specs.Overlay.{is_object, Laid, laid, overlay}
use Rattle.overlay.specs.Overlaid.{HoldsObject, Given, fits, clashed, rows, bytes, Overlaid, gives, bad_lower, bad_upper}
use Rattle.overlay.specs.Profiles.{profile_tree, profile_sane}
use Rattle.overlay.specs.Finds.{Property, here, later, Finds, finds, Lacks, KeyOver, lower_only, upper_only, both_others, both_objects, neither}

-- WHAT `find` ANSWERS for the key s in row 0 of the table of r, the overlay of t and u: the row of its value, or that there is none
pub data FoundOver (t u r : Tree) (s : List ℕ) : Found → Type 0 where
  found_lower : {i : ℕ} (v : Tree) → Finds s v t → Lacks s u → RowOf i (unspan v) 0 r → FoundOver t u r s (Ok (Some (record { 0 = i })))
  found_upper : {i : ℕ} (w : Tree) → Lacks s t → Finds s w u → RowOf i (unspan w) 0 r → FoundOver t u r s (Ok (Some (record { 0 = i })))
  found_others : {i : ℕ} (v w : Tree) → Finds s v t → Finds s w u → is_object v ≡ false → is_object w ≡ false → RowOf i (unspan w) 0 r → FoundOver t u r s (Ok (Some (record { 0 = i })))
  found_objects : {i : ℕ} (v w x : Tree) → Finds s v t → Finds s w u → is_object v ≡ true → is_object w ≡ true → overlay v w ≡ laid x → RowOf i x 0 r
      → FoundOver t u r s (Ok (Some (record { 0 = i })))
  found_none : Lacks s t → Lacks s u → FoundOver t u r s (Ok None)

-- THE PAIRS of an object, with the rows of their values
pub record Listed (b : ℕ) (ts : Forest) : Type 0 where
  pub list : List Pair
  pub pairs : Pairs b ts list

pub listed : {k n : ℕ} {ts : Forest} (b : ℕ) → shaped.Pairs k n ts → Listed b ts
listed b shaped.pairs_none = record { list = []; pairs = no_pair }
listed b (shaped.pairs_more {s = s} {v = v} x y z) =
    let l = listed (b + 1 + size v) z in
    record { list = pair s.bytes (b + 1) v ∷ l.list; pairs = one_pair l.pairs }

pub holds_property : {b i : ℕ} {s : List ℕ} {v : Tree} {ts : Forest} {fs : List Pair} → Pairs b ts fs → Holds s i v fs → Property s v ts
holds_property {i = i} {s = s} {v = v} (no_pair {r = r}) x5 = elim x5 [ ]
holds_property (one_pair x) held = here
holds_property (one_pair x) (held_later h) = later (holds_property x h)

pub property_holds : {b : ℕ} {s : List ℕ} {v : Tree} {ts : Forest} {fs : List Pair} → Pairs b ts fs → Property s v ts → (i : ℕ) × Holds s i v fs
property_holds {s = s} {v = v} (no_pair {r = r}) x5 = elim x5 [ ]
property_holds (one_pair {r = r} x) here = (r + 1, held)
property_holds (one_pair x) (later h) = let g = property_holds x h in (g.0, held_later g.1)

-- AN OBJECT r, and what is found in its row 0
pub record Rooted (r : Tree) : Type 0 where
  pub list : List Pair
  pub at : ObjectAt r 0 list
  pub to : {s : List ℕ} {i : ℕ} {v : Tree} → Holds s i v list → Finds s v r
  pub of : {s : List ℕ} {v : Tree} → Finds s v r → (i : ℕ) × Holds s i v list

-- the table and the text room of the result
pub laid_filled : (r : Tree) (table text : List ℕ) → width * size r ≤ words_in table → length (text_of r) ≤ bytes_in text
    → Filled r (size r) (rows_of unlined 0 0 0 r ++ drop (width * size r) table) (text_of r ++ drop (length (text_of r)) text)
laid_filled r table text h k =
    let w = rows_of unlined 0 0 0 r in
    let others = drop (width * size r) table in
    let rest = drop (length (text_of r)) text in
    record {
      count = refl;
      lines = unlined;
      rows = stands_first w others;
      text = stands_first (text_of r) rest;
      few = omega (arith, length-append w others, length_rows unlined 0 0 0 r);
      few_text = omega (arith, length-append (text_of r) rest);
    }

-- WHERE THE ANSWER IS 0: the overlay of the two tables' trees, and every answer of `find` in row 0 of the third
pub record FoundIn (lower : List ℕ) (m : ℕ) (lowerText upper : List ℕ) (n : ℕ) (upperText table : List ℕ) (c : ℕ) (text : List ℕ) : Type 0 where
  pub under : Tree
  pub above : Tree
  pub result : Tree
  pub under_held : HoldsObject lower m lowerText under
  pub above_held : HoldsObject upper n upperText above
  pub overlaid : overlay under above ≡ laid result
  pub filled : Filled result c table text
  pub found : (s : List ℕ) (f : Found) → questions.Finds table c text s 0 (questions.found_reply f) → FoundOver under above result s f
