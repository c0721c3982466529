-- THE LEAF of a block that is read line by line: its row, the text of its further lines, and what they make of the block. Assumes nothing.
use Rattle.std.specs.Prelude.{◌≡◌, refl, List, ◌++◌, ℕ, ◌+◌, ◌*◌, ◌≤◌, ◌<◌, drop}
use Rattle.std.proofs.Math.Path.{sym, ap, subst}
use Rattle.std.proofs.Common.{◌∙◌}
use Rattle.std.proofs.Math.Bool.{false}
use native.Mathlib.Omega.{arith}
use Rattle.std.proofs.Math.ListN.{length, length-append}
use Rattle.std.proofs.Math.Seq.{sets}
use Rattle.std.proofs.Math.Dec.{leb}
use borrow.Author.Tests.{lt-leb}
use Rattle.exact.specs.Out.{Out, fmap, soft, bad}
use Rattle.exact.specs.Lines.{soft_reached}
use Rattle.language.specs.Kind.{TRUE}
use Rattle.language.specs.Tree.{unlined, Decoded, ◌then◌, Tree, leaf, width, size, text_of, escapes_of, rows_of, row_list}
use Rattle.rooms.specs.Told.{ESCAPE, spot, tally, told, spot_on, tally_on}
use Rattle.rooms.specs.declared.Cursor.{Cursor}
use Rattle.rooms.specs.Contract.{Block}
use Rattle.std.specs.declared.result.Result.TheVariants.{Err, Ok}
use Rattle.rooms.specs.Contract.{columns, Ready, Blocks}
use Rattle.rooms.specs.Stores.{sets_append}

-- ASKED: the first line of a block from the cursor c ends at e with an LF, and its text, with its escapes, at x
pub record Begun (doc : List ℕ) (c : Cursor) (e x col : ℕ) : Type 0 where
  pub ready : Ready doc c
  pub ahead : c.at < e
  pub inside : e < length doc
  pub few : spot x ≤ e
  pub scant : tally x ≤ e
  pub low : col ≤ columns

-- the row of a leaf from c up to `at`, whose span ends at e and whose text, with its escapes, ends at x
pub record Rowed (c : Cursor) (parent kind at x far e : ℕ) (r : Block) (rows rows' : List ℕ) : Type 0 where
  pub is : r ≡ Ok (record { at = at; row = c.row + 1; text = x }, far, e)
  pub table : rows' ≡ sets rows (width * c.row) (row_list unlined kind c.at e (spot c.text) (spot x) parent (c.row + 1))

-- PROMISED of further lines, which o reads from `from` on: where they end, the text that they add from x on, and the leaf's row
pub record Further {X : Type 0} (doc : List ℕ) (c : Cursor) (parent kind : ℕ) (o : Out X) (ends : X → ℕ) (bytes : X → Decoded) (from x : ℕ) (r : Block)
    (rows rows' text text' : List ℕ) : Type 0 where
  pub value : X
  pub at : ℕ
  pub far : ℕ
  pub reads : o ≡ soft far value at (drop at doc)
  pub room : text' ≡ sets text (spot x) (bytes value).bytes
  pub row : Rowed c parent kind at (x + told (bytes value)) far (ends value) r rows rows'
  pub inside : at ≤ length doc
  pub inner : ends value ≤ at
  pub few : from + length (bytes value).bytes ≤ at
  pub scant : from + (bytes value).escapes ≤ at
  pub ahead : at ≤ far

-- .. or that they are refused
pub data Furthers {X : Type 0} (doc : List ℕ) (c : Cursor) (parent kind : ℕ) (o : Out X) (ends : X → ℕ) (bytes : X → Decoded) (from x : ℕ) (r : Block)
    (rows rows' text text' : List ℕ) : Type 0 where
  went : Further doc c parent kind o ends bytes from x r rows rows' text text' → Furthers doc c parent kind o ends bytes from x r rows rows' text text'
  stopped : (p : ℕ) → r ≡ Err p → o ≡ bad p → Furthers doc c parent kind o ends bytes from x r rows rows' text text'

-- THE BLOCK: a first line of text t, which stands in the room from the cursor on, and the further lines
module _ {X : Type 0} (doc : List ℕ) (c : Cursor) (parent kind : ℕ) (o : Out X) (ends : X → ℕ) (bytes : X → Decoded) (from x : ℕ) (r : Block) (R R' T₀ T T' : List ℕ) (whole : Out Tree) (t : Decoded) where
  abbrev tree : X → Tree
  tree v = leaf kind c.at (ends v) (t then bytes v)

  pub block_of : Ready doc c → whole ≡ fmap tree o → TRUE < kind → T ≡ sets T₀ (spot c.text) t.bytes → x ≡ c.text + told t → c.at + length t.bytes < from → c.at + t.escapes < from
      → Furthers doc c parent kind o ends bytes from x r R R' T T' → Blocks doc c parent whole r R R' T₀ T'
  unfolding Blocks size text_of escapes_of rows_of
  block_of ready h k s e l g (stopped p z b) = subst (λ (q : Block). Blocks doc c parent whole q R R' T₀ T') (sym z) (h ∙ ap (fmap tree) b)
  block_of ready h k s e l g (went f) =
      let v = f.value in
      let u = bytes v in
      let z : leb kind TRUE ≡ false = lt-leb kind TRUE k in
      let m : length (t.bytes ++ u.bytes) ≡ length t.bytes + length u.bytes = length-append t.bytes u.bytes in
      let p : spot x ≡ spot c.text + length t.bytes = ap spot e ∙ spot_on c.text (length t.bytes) t.escapes (omega (arith, ready.small, ready.few_text, f.few, f.inside)) in
      let q : tally x ≡ tally c.text + t.escapes = ap tally e ∙ tally_on c.text (length t.bytes) t.escapes (omega (arith, ready.small, ready.few_text, f.few, f.inside)) in
      let b : spot x + length u.bytes < ESCAPE = omega (arith, ready.small, ready.few_text, f.few, f.inside) in
      let y : spot (x + told u) ≡ spot c.text + length (t.bytes ++ u.bytes) = spot_on x (length u.bytes) u.escapes b ∙ omega arith in
      let n : tally (x + told u) ≡ tally c.text + (t.escapes + u.escapes) = tally_on x (length u.bytes) u.escapes b ∙ omega arith in
      let w = f.row.table in
      subst
      (λ (q : Block). Blocks doc c parent whole q R R' T₀ T')
      (sym f.row.is)
      (record {
        taken =
            record {
              tree = tree v;
              is = h ∙ (ap (fmap tree) f.reads ∙ soft_reached f.far (tree v) f.at (drop f.at doc) (omega (arith, f.ahead, f.few)));
              span =
                  record {
                    ahead = omega (arith, f.few);
                    inside = f.inside;
                    row = refl;
                    text = y;
                    escapes = n;
                    few_rows = omega (arith, f.few);
                    few_text = omega (arith, f.few);
                    few_escapes = omega (arith, f.scant);
                  };
              filled =
                  record {
                    table = rw (z, ← y) w;
                    room =
                        f.room
                        ∙ (ap (λ i. sets i (spot x) u.bytes) s
                        ∙ (ap (λ i. sets (sets T₀ (spot c.text) t.bytes) i u.bytes) p ∙ sym (sets_append T₀ (spot c.text) t.bytes u.bytes)));
                  };
            };
        ends = refl;
        inner = f.inner;
      })
