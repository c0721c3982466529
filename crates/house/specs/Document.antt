-- WHAT THE HOUSE STYLE WRITES IS A DOCUMENT, and its tree is like the one written. Assumes nothing.
use Rattle.std.specs.Prelude.{◌≡◌, refl, List, [], Bool, true, false, ℕ, zero, suc, ◌+◌, length}
use Rattle.std.proofs.Common.{ap, ◌∙◌}
use Rattle.notation.specs.Class.{pick}
use Rattle.notation.specs.Lang.{Alt, end}
use Rattle.exact.specs.Class.{only_is}
use Rattle.language.specs.Tree.{Tree}
use Rattle.language.specs.Alike.{unspan, Alike}
use Rattle.language.specs.Blocks.{Array, Object, Nested, Item}
use Rattle.language.specs.Document.{RootLine, Root, Whole, Document}
use Rattle.language.specs.House.{is_none, one_line, block, house}
use Rattle.shaped.specs.Shaped.{Shaped, shaped_leaf, shaped_array, shaped_object}
use Rattle.house.specs.Spells.{Spells, entire, one_spells, two_spells, star_none, ret_reads, seq_reads, last_reads, byte_then}
use Rattle.house.specs.Same.{Like}
use Rattle.house.specs.Inline.{value_spells}
use Rattle.house.specs.Unspanned.{house_alike}
use Rattle.house.specs.Blocks.{elements_laid, pairs_laid, array_spells, object_spells}

-- a value alone
line_spells : {k : ℕ} {t : Tree} (at : ℕ) → Shaped k t → Spells (RootLine k) at (one_line t) (Like t)
line_spells at x =
    let r = value_spells true at x in
    record { value = r.value; reads = seq_reads r.reads (byte_then (only_is 10) ret_reads); good = r.good }

root_line : (k : ℕ) {at : ℕ} {w : List ℕ} {P : Tree → Type 0} → Spells (RootLine k) at w P → Spells (Root k) at w P
root_line zero r = one_spells r
root_line (suc k) r = one_spells (one_spells r)

-- on its line where it is empty, or as a block
root_either : {line block : List ℕ} {P : Tree → Type 0} (k at : ℕ) (c : Bool) → Spells (RootLine (suc k)) at line P
    → (c ≡ false → Spells (Alt (Array 0 (Item k 2)) (Object k 0 (Nested k 2))) at block P) → Spells (Root (suc k)) at (pick c line block) P
root_either k at true f g = root_line (suc k) f
root_either k at false f g = two_spells (g refl)

root_spells : {k : ℕ} {t : Tree} (at : ℕ) → Shaped k t → Spells (Root k) at (house t) (Like t)
unfolding house block
root_spells at (shaped_leaf {k = k} x) = root_line k (line_spells {k = k} at (shaped_leaf x))
root_spells at (shaped_array {k = k} {n = n} {ts = ts} x) =
    root_either k at (is_none ts) (line_spells at (shaped_array x)) (λ e. one_spells (array_spells k n ts 0 (elements_laid x 0) e at))
root_spells at (shaped_object {k = k} {n = n} {ts = ts} x) =
    root_either k at (is_none ts) (line_spells at (shaped_object x)) (λ e. two_spells (object_spells k n ts 0 (pairs_laid x 0) e at))

-- comments before and blank lines behind: none
whole_spells : {k : ℕ} {t : Tree} → Shaped k t → Spells (Whole k) 0 (house t) (Like t)
whole_spells x =
    let r = root_spells 0 x in
    record { value = r.value; reads = seq_reads star_none (last_reads r.reads (seq_reads star_none ret_reads)); good = r.good }

-- THE THEOREM
pub record ReadBack (k : ℕ) (t : Tree) : Type 0 where
  pub tree : Tree
  pub word : Document k (house t) tree
  pub alike : Alike tree t

pub house_document : (k : ℕ) (t : Tree) → Shaped k t → ReadBack k t
unfolding Document
house_document k t x =
    let r = whole_spells x in
    record {
      tree = r.value;
      word = record { value = r.value; next = 0 + length (house t); rest = []; first = entire r.reads; others = end };
      alike = r.good.alike;
    }

-- "Reading what was written gives the same kinds, texts and nesting"; "Writing twice, with a reading between, gives the same bytes"
pub record Again (t u : Tree) : Type 0 where
  pub alike : Alike u t
  pub bytes : house u ≡ house t

-- .. whatever tree is read, if a document has one tree
pub house_again : (k : ℕ) (t : Tree) → Shaped k t → ((u v : Tree) → Document k (house t) u → Document k (house t) v → u ≡ v)
    → (u : Tree) → Document k (house t) u → Again t u
house_again k t x one u d =
    let r = house_document k t x in
    let a : Alike u t = ap unspan (one u r.tree d r.word) ∙ r.alike in
    record { alike = a; bytes = house_alike u t a }
