-- Laws of the row of a leaf whose text has no escapes: how it is put, and that the cursor behind it is the one that its reader answers. Assumes nothing.
use mathlib.Core.Path.{◌≡◌, refl}
use mathlib.Core.List.{List}
use Prim.Native.Nat.{ℕ, ◌+◌, ◌-◌, ◌*◌, ◌≤◌, ◌<◌}
use native.Mathlib.Omega.{arith}
use lib.ListN.{length, drop}
use lib.Seq.{sets}
use borrow.Author.Rules.{rules}
use Rattle.exact.specs.Out.{Out}
use Rattle.exact.specs.Lines.{reached}
use Rattle.language.specs.Kind.{TRUE}
use Rattle.language.specs.Tree.{unlined, unescaped, Tree, leaf, width, row_list}
use Rattle.rooms.specs.Told.{ESCAPE, spot, told, word_is}
use Rattle.rooms.specs.declared.Cursor.{Cursor}
use Rattle.rooms.specs.declared.Words.{Words}
use Rattle.std.specs.declared.result.Result.TheVariants.{Ok}
use Rattle.rooms.specs.Contract.{ample, Ready, Reaches, Small}
use Rattle.rooms.specs.Laws.{reaching, leaf_text}
use Rattle.numbers.specs.Contract.{Longer, Put}

-- THE ROW, whose text begins at x
module _ (c : Cursor) (e to x : ℕ) (at_x : x ≡ spot c.text) where
  pub put_read : (p kind : ℕ) (R R' : List ℕ) (w : Words) → w ≡ record { kind = kind; first = c.at; after = e; from = x; to = to; parent = p; next = c.row + 1 }
      → R' ≡ sets R (width * c.row) (row_list unlined w.kind w.first w.after w.from w.to w.parent w.next)
      → Put R R' c p kind e to (record { at = e; row = c.row + 1; text = c.text + (to - x) })
  put_read p kind R R' w h r = record { next = rw at_x refl; table = rw at_x at (rw h at r) }

  -- the word behind it
  pub put_word : Small c.at e (spot c.text) to (c.row + 1) → Longer c to → c.text + (to - x) < ESCAPE * ESCAPE
  put_word s o = omega (arith, word_is c.text, s.from_fits, s.to_fits, o.few)

pub small_row : (a e x to n : ℕ) → Small a e x to (n + 1) → n < ample
small_row a e x to n s = let h = s.next_fits in omega arith

-- .. and its text s, which goes up to `to`, is what the reader's answer o says
module _ (doc : List ℕ) (c : Cursor) (ready : Ready doc c) (s : List ℕ) (e to : ℕ) (ahead : c.at < e) (inside : e ≤ length doc) (fits : c.at + length s ≤ e) where
  pub text_read : (p kind far : ℕ) (o : Out Tree) (R R' T T' : List ℕ) (n : Cursor) → to ≡ spot c.text + length s → TRUE < kind
      → o ≡ reached far (leaf kind c.at e (unescaped s)) e (drop e doc) → Put R R' c p kind e to n → T' ≡ sets T (spot c.text) s → Reaches doc c p o (Ok (n, far)) R R' T T'
  text_read p kind far o R R' T T' n q k a w t =
      let z : c.text + (to - spot c.text) ≡ c.text + told (unescaped s) = omega arith in
      rw (w.next, z)
      (reaching doc c p o R R' T T' (record { at = e; row = c.row + 1; text = c.text + told (unescaped s) }) far
      (leaf_text doc c p o kind e far ahead inside R R' T T' (unescaped s) ready a k (omega arith) (omega arith) (rw q at w.table) t))

pub ruleset put_laws = (put_read, put_word, small_row, rules)
