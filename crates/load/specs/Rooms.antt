-- WHAT FILLING LEAVES IN THE ROOMS (`Filled`), of stored bytes that one field holds, whose spans are those of Ticket 4, and of more. Assumes nothing.
use Rattle.std.specs.Prelude.{◌≡◌, List, [], ℕ, ◌≤◌}
use Rattle.std.proofs.Math.Path.{sym, ap}
use Rattle.std.proofs.Common.{subst, ◌∙◌, append-nil, arith, rules}
use Rattle.std.proofs.Math.ListN.{length}
use Rattle.std.proofs.Math.Seq.{sets}
use Rattle.language.specs.Tree.{Tree, unlined, rows_of}
use Rattle.stored.specs.Form.{loaded}
use Rattle.stored.specs.Parts.{widest_is}
use Rattle.uncut.specs.Short.{longest}
use Rattle.stored.specs.Old as old
use Rattle.stored.proofs.OldFormsLaws.{old_placed}
use Rattle.stored.proofs.OldLengthsLaws.{short_now, content_narrow}
use Rattle.fields.specs.Rows.{kept_value}
use Rattle.uncut.specs.Filling.{Fill, FillRoot, FilledRooms}
use Rattle.cutfill.specs.Filling as long
use Rattle.load.specs.Loading.{Asked, Filled}

module _ (stored : List ℕ) (w : ℕ) (few : length stored ≤ longest) where
  old_bytes : (k : Asked stored w) → old.form k.tree ≡ stored
  old_bytes k = sym (short_now k.tree (omega (arith, widest_is, ap length k.found.bytes))) ∙ k.found.bytes

  fill_of : Asked stored w → Fill stored 0 0 0 0
  fill_of k =
      let e = ap length (old_bytes k) in
      record {
        tree = k.tree;
        kept = kept_value k.found.shaped;
        here = record { behind = []; is = sym (append-nil (old.form k.tree) ∙ old_bytes k) };
        inside = omega arith;
        few = omega arith;
        few_rows = omega arith;
        few_text = omega arith;
        parent = omega arith;
      }

  pub short_root : Asked stored w → FillRoot stored w
  unfolding fill_of
  short_root k = record { asked = fill_of k; whole = ap length (old_bytes k); room = k.room }

  pub short_filled : (table table' text text' : List ℕ) → ((h : Fill stored 0 0 0 0) → FilledRooms h.tree table table' text text') → (k : Asked stored w) → Filled k.tree table table' text text'
  unfolding fill_of
  short_filled table table' text text' f k =
      let z : FilledRooms k.tree table table' text text' = f (fill_of k) in
      let t = k.tree in
      let p : old.placed 0 t ≡ loaded t = sym (old_placed t (content_narrow t (omega (arith, widest_is, ap length (old_bytes k))))) in
      record { rows = z.rows ∙ ap (λ (u : Tree). sets table 0 (rows_of unlined 0 0 0 u)) p; bytes = z.bytes }

-- more bytes are filled as they are asked
module _ (stored : List ℕ) (w : ℕ) where
  root_of : Asked stored w → long.FillRoot stored w
  root_of k = record { tree = k.tree; shaped = k.found.shaped; whole = k.found.bytes; few = k.few; room = k.room }

  pub long_root : Asked stored w → long.FillRoot stored w
  long_root k = root_of k

  pub long_filled : (table table' text text' : List ℕ) → ((h : long.FillRoot stored w) → long.FilledRooms h.tree table table' text text') → (k : Asked stored w) → Filled k.tree table table' text text'
  unfolding root_of
  long_filled table table' text text' f k = let z : long.FilledRooms k.tree table table' text text' = f (root_of k) in record { rows = z.rows; bytes = z.bytes }

pub ruleset rooming = (short_root, short_filled, long_root, long_filled, rules)
