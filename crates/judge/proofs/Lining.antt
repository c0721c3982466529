-- What a value with its line's end, and what else may begin where one does, say of their readers; and the row of a block. Assumes nothing.
use mathlib.Core.Path.{◌≡◌, refl, sym, ap, ◌∙◌}
use mathlib.Core.List.{List}
use mathlib.Core.Bool.{Bool, true, false}
use Prim.Native.Nat.{ℕ, zero, suc, ◌+◌, ◌*◌, ◌≤◌, ◌<◌, max}
use native.Mathlib.Omega.{arith}
use lib.ListN.{length, drop}
use lib.Seq.{sets}
use borrow.Author.Rules.{rules}
use Rattle.language.specs.Kind.{ARRAY, OBJECT, KEY}
use Rattle.language.specs.Tree.{unlined, Tree, after, width, size, text_of, row_list, escapes_of, rows_of, leaf}
use Rattle.exact.specs.Class.{is, only}
use Rattle.exact.specs.Out.{Out, Reader, Firm, bind, ok, bad, f_ok, f_bad}
use Rattle.exact.specs.Lang.{ret_r, byte_r}
use Rattle.exact.specs.Comb.{seq_r, alt_r}
use Rattle.exact.specs.Place.{peek, alt_is, alt_not}
use Rattle.exact.specs.Lines.{reached, raised, raised_ok, bind_reached}
use Rattle.rooms.specs.Told.{ESCAPE, spot, tally, spot_on, tally_on}
use Rattle.rooms.specs.declared.Cursor.{Cursor}
use Rattle.rooms.specs.declared.Words.{Words}
use Rattle.rooms.specs.Contract.{Ans}
use Rattle.std.specs.declared.result.Result.TheVariants.{Err, Ok}
use Rattle.rooms.specs.Contract.{Far}
use Rattle.rooms.specs.Contract.{Block}
use Rattle.rooms.specs.Contract.{columns, ample, Ready, Span, Taken, Answers, Reaches, Blocks, Small}
use Rattle.rooms.specs.Laws
use Rattle.language.specs.declared.Kind.{Kind}
use Rattle.characters.specs.Reads.{Skip}
use Rattle.characters.specs.Reads.{Ends, Skips}
use Rattle.characters.specs.Comments.{optional_comment_ll}
use Rattle.strings.specs.Contract.{Texted, Texts}
use Rattle.strings.specs.Joining.{itself}
use Rattle.strings.specs.Keys.{name_r, key_r}
use Rattle.inline.specs.Values.{value_r}
use Rattle.blocktext.specs.Contract.{Asked}
use Rattle.blocktext.specs.BlockStrings.{open_string_r, property_string_r}
use Rattle.blocktext.specs.BlockBytes.{open_bytes_r, property_bytes_r}
use Rattle.blocktext.specs.Joined.{joined_r}
use Rattle.blocks.specs.Or.{merge}
use Rattle.blocks.specs.ValueLine.{line_r}
use Rattle.blocks.specs.Property.{on_r}
use Rattle.blocks.specs.Openers.{opener_r, nested_line_r}
use Rattle.judge.specs.Members.{kind_of}
use Rattle.judge.specs.Contract.{Stands, feed_r, ends_r, end_r, later, Enclosed}
use Rattle.judge.proofs.Names.{name_bad, name_got, name_is}
use Rattle.judge.proofs.Outs.{raised_bad}
use Rattle.judge.proofs.Spans.{value_ends}

-- ---- a cursor moved on over bytes that are no tree's

pub span_on : (doc : List ℕ) (c n : Cursor) (t : Tree) (a : ℕ) → n.at ≤ a → a ≤ length doc → Span doc c n t → Span doc c (record { at = a; row = n.row; text = n.text }) t
span_on doc c n t a h l s =
    record {
      ahead = omega (arith, s.ahead);
      inside = l;
      row = s.row;
      text = s.text;
      escapes = s.escapes;
      few_rows = omega (arith, s.few_rows);
      few_text = omega (arith, s.few_text);
      few_escapes = omega (arith, s.few_escapes);
    }

-- ---- a value and its line's end

-- the end of a line, and then the value
pub end_is : (root : Bool) (v : Tree) (at : ℕ) (s : List ℕ) → end_r root v at s ≡ bind (ends_r root at s) (λ _. ret_r v)
unfolding ends_r feed_r
end_is true v at s = refl
end_is false v at s = go (optional_comment_ll.firm at s)
  where
    go : {o : Out (List ℕ)} → Firm o → bind o (λ _. seq_r (byte_r (is (only 10))) λ _. ret_r v) ≡ bind (bind o (λ _. byte_r (is (only 10)))) (λ _. ret_r v)
    go f_ok = refl
    go f_bad = refl

module _ (doc : List ℕ) (c : Cursor) (p k : ℕ) (root : Bool) (a : Far) (R R' T T' : List ℕ) (w : Reaches doc c p (value_r true k c.at (drop c.at doc)) a R R' T T') where
  pub line_none : (q : ℕ) → a ≡ Err q → Blocks doc c p (line_r (end_r root) k c.at (drop c.at doc)) (Err q) R R' T T'
  unfolding line_r
  line_none q e =
      Laws.not_block doc c p _ R R' T T' q (ap (λ (o : Out Tree). bind o (end_r root)) (Laws.reached_refusal doc c p _ R R' T T' a q e w))

  pub line_inside : (n : Cursor) (far : ℕ) → a ≡ Ok (n, far) → n.at ≤ length doc
  line_inside n far e = (Laws.reached_taken doc c p _ R R' T T' a n far e w).span.inside

  module _ (n : Cursor) (far : ℕ) (s : Skip) (e : a ≡ Ok (n, far)) (h : Skips doc n.at (ends_r root n.at (drop n.at doc)) s) where
    got : Taken doc c p (value_r true k c.at (drop c.at doc)) n far R R' T T'
    got = Laws.reached_taken doc c p _ R R' T T' a n far e w

    behind : line_r (end_r root) k c.at (drop c.at doc) ≡ raised far (bind (ends_r root n.at (drop n.at doc)) (λ _. ret_r got.tree))
    unfolding line_r
    behind =
        ap (λ (o : Out Tree). bind o (end_r root)) got.is
        ∙ (bind_reached far got.tree n.at (drop n.at doc) (end_r root) ∙ ap (raised far) (end_is root got.tree n.at (drop n.at doc)))

    pub line_cut : (q g : ℕ) → s ≡ Err q → g ≡ max far q → Blocks doc c p (line_r (end_r root) k c.at (drop c.at doc)) (Err g) R R' T T'
    unfolding Skips
    line_cut q g z y =
        let x : ends_r root n.at (drop n.at doc) ≡ bad q = rw z at h in
        Laws.not_block doc c p _ R R' T T' g (rw y (behind ∙ (ap (λ (o : Out ℕ). raised far (bind o (λ _. ret_r got.tree))) x ∙ raised_bad far q)))

    pub line_done : (m : ℕ) (d : Cursor) → s ≡ Ok m → d ≡ record { at = m; row = n.row; text = n.text }
        → Blocks doc c p (line_r (end_r root) k c.at (drop c.at doc)) (Ok (d, far, n.at)) R R' T T'
    unfolding Skips
    line_done m d z y =
        let x : Ends doc n.at (ends_r root n.at (drop n.at doc)) m = rw z at h in
        rw y
        (Laws.a_block doc c p _ R R' T T' (record { at = m; row = n.row; text = n.text }) far n.at
        (record {
          taken =
              record {
                tree = got.tree;
                is = behind ∙ (ap (λ (o : Out ℕ). raised far (bind o (λ _. ret_r got.tree))) x.is ∙ raised_ok far got.tree m (drop m doc));
                span = span_on doc c n got.tree m x.behind x.inside got.span;
                filled = got.filled;
              };
          ends = value_ends true k c.at (drop c.at doc) far got.tree n.at (drop n.at doc) got.is;
          inner = x.behind;
        }))

-- ---- one reader in place of another, by the byte b at the cursor

pub asked_first : (doc : List ℕ) (c : Cursor) (b d n : ℕ) → Ready doc c → n ≤ columns → b ≡ peek doc c.at → b ≡ d → Asked doc c d n
asked_first doc c b d n r l h e = record { ready = r; first = sym h ∙ e; low = l }

module _ (doc : List ℕ) (c : Cursor) (p : ℕ) (a : Block) (R R' T T' : List ℕ) (b : ℕ) (h : b ≡ peek doc c.at) where
  abbrev Via : Reader Tree → Type 0
  Via r = Blocks doc c p (r c.at (drop c.at doc)) a R R' T T'

  via_first : (d : ℕ) (r q : Reader Tree) → d < 256 → b ≡ d → Via r → Via (alt_r (is (only d)) r q)
  via_first d r q l k x = rw (alt_is doc c.at d b l h r q k) x

  via_other : (d : ℕ) (r q : Reader Tree) → d < 256 → (b ≡ d → ⊥) → Via q → Via (alt_r (is (only d)) r q)
  via_other d r q l k x = rw (alt_not doc c.at d b l h r q k) x

  pub on_string : (k n : ℕ) → b ≡ 96 → Via (property_string_r n) → Via (on_r k n)
  unfolding on_r
  on_string k n e x = via_first 96 (property_string_r n) (alt_r (is (only 62)) (property_bytes_r n) (line_r (end_r false) k)) (omega arith) e x

  pub on_bytes : (k n : ℕ) → b ≡ 62 → Via (property_bytes_r n) → Via (on_r k n)
  unfolding on_r
  on_bytes k n f x = via_other 96 (property_string_r n) (alt_r (is (only 62)) (property_bytes_r n) (line_r (end_r false) k)) (omega arith) (λ e. omega arith) (via_first 62 (property_bytes_r n) (line_r (end_r false) k) (omega arith) f x)

  pub on_value : (k n : ℕ) → (b ≡ 96 → ⊥) → (b ≡ 62 → ⊥) → Via (line_r (end_r false) k) → Via (on_r k n)
  unfolding on_r
  on_value k n e f x = via_other 96 (property_string_r n) (alt_r (is (only 62)) (property_bytes_r n) (line_r (end_r false) k)) (omega arith) e (via_other 62 (property_bytes_r n) (line_r (end_r false) k) (omega arith) f x)

  pub opens_string : (root : Bool) (k n : ℕ) → b ≡ 96 → Via (open_string_r n) → Via (opener_r (end_r root) k n)
  unfolding opener_r
  opens_string root k n e x = via_first 96 (open_string_r n) (alt_r (is (only 62)) (open_bytes_r n) (line_r (end_r root) k)) (omega arith) e x

  pub opens_bytes : (root : Bool) (k n : ℕ) → b ≡ 62 → Via (open_bytes_r n) → Via (opener_r (end_r root) k n)
  unfolding opener_r
  opens_bytes root k n f x = via_other 96 (open_string_r n) (alt_r (is (only 62)) (open_bytes_r n) (line_r (end_r root) k)) (omega arith) (λ e. omega arith) (via_first 62 (open_bytes_r n) (line_r (end_r root) k) (omega arith) f x)

  pub opens_value : (root : Bool) (k n : ℕ) → (b ≡ 96 → ⊥) → (b ≡ 62 → ⊥) → Via (line_r (end_r root) k) → Via (opener_r (end_r root) k n)
  unfolding opener_r
  opens_value root k n e f x = via_other 96 (open_string_r n) (alt_r (is (only 62)) (open_bytes_r n) (line_r (end_r root) k)) (omega arith) e (via_other 62 (open_bytes_r n) (line_r (end_r root) k) (omega arith) f x)

  pub nested_string : (n : ℕ) → b ≡ 96 → Via (open_string_r n) → Via (nested_line_r n)
  unfolding nested_line_r
  nested_string n e x = via_first 96 (open_string_r n) (joined_r n) (omega arith) e x

  pub nested_joined : (n : ℕ) → (b ≡ 96 → ⊥) → Via (joined_r n) → Via (nested_line_r n)
  unfolding nested_line_r
  nested_joined n e x = via_other 96 (open_string_r n) (joined_r n) (omega arith) e x

-- ---- no earlier than p

module _ (b : Block) (p : ℕ) where
  pub kept_done : (n : Cursor) (far e : ℕ) → b ≡ Ok (n, far, e) → Ok (n, far, e) ≡ later b p
  unfolding later
  kept_done n far e h = rw h refl

  pub kept_bad : (q g : ℕ) → b ≡ Err q → g ≡ max q p → Err g ≡ later b p
  unfolding later
  kept_bad q g h k = rw (h, k) refl

pub later_block : (doc : List ℕ) (c : Cursor) (parent : ℕ) (o : Out Tree) (b : Block) (p : ℕ) (R R' T T' : List ℕ) → Blocks doc c parent o b R R' T T'
    → Blocks doc c parent (merge o (bad p)) (later b p) R R' T T'
unfolding Blocks later
later_block doc c parent o (Ok (n, far, e)) p R R' T T' h =
    record { taken = record { tree = h.taken.tree; is = rw h.taken.is (go far); span = h.taken.span; filled = h.taken.filled }; ends = h.ends; inner = h.inner }
  where
    go : (f : ℕ) → merge (reached f h.taken.tree n.at (drop n.at doc)) (bad p) ≡ reached f h.taken.tree n.at (drop n.at doc)
    go zero = refl
    go (suc f) = refl
later_block doc c parent o (Err q) p R R' T T' h = rw h refl

-- ---- a key and its row

pub key_ready : (doc : List ℕ) (c : Cursor) → Stands doc c → Ready doc (record { at = c.at; row = 0; text = c.text })
key_ready doc c r = record { small = r.small; inside = r.inside; few_rows = omega arith; few_text = r.few_text; few_escapes = r.few_escapes }

-- a key's cursor, as far as its name is concerned
abbrev rowless : Cursor → Cursor
rowless c = record { at = c.at; row = 0; text = c.text }

module _ (doc : List ℕ) (c : Cursor) (p : ℕ) (a : Ans) (R R' T T' : List ℕ) (w : Texts doc (rowless c) (name_r c.at (drop c.at doc)) a T T') where
  pub key_none : (q : ℕ) → a ≡ Err q → Answers doc c p (key_r c.at (drop c.at doc)) (Err q) R R' T T'
  key_none q e = Laws.refused doc c p _ R R' T T' q (name_bad doc (rowless c) a T T' w q e)

  module _ (n : Cursor) (e : a ≡ Ok n) (r : Stands doc c) where
    key_got : Texted itself doc (rowless c) (name_r c.at (drop c.at doc)) n 0 T T'
    key_got = name_got doc (rowless c) a T T' w n e

    key_low : spot c.text + length key_got.value.bytes < ESCAPE
    key_low = omega (arith, r.small, r.few_text, key_got.spelt.inside, key_got.spelt.few)

    key_text : spot n.text ≡ spot c.text + length key_got.value.bytes
    key_text = ap spot key_got.spelt.end ∙ spot_on c.text (length key_got.value.bytes) key_got.value.escapes key_low

    pub key_small : (x y : ℕ) → x ≡ spot c.text → y ≡ spot n.text → Small c.at n.at x y (c.row + 1)
    key_small x y h k =
        let s = key_got.spelt in
        record {
          first_fits = omega (arith, r.small, r.inside);
          after_fits = omega (arith, r.small, s.inside);
          from_fits = omega (arith, r.small, r.inside, r.few_text);
          to_fits = omega (arith, r.small, r.few_text, s.inside, key_text, s.few);
          next_fits = omega (arith, r.small, r.inside, r.few_rows);
        }

    pub key_placed : (y z : ℕ) (x : Words) → y ≡ spot c.text → z ≡ spot n.text → x ≡ record { kind = KEY; first = c.at; after = n.at; from = y; to = z; parent = p; next = c.row + 1 }
        → R' ≡ sets R (width * c.row) (row_list unlined x.kind x.first x.after x.from x.to x.parent x.next)
        → Answers doc c p (key_r c.at (drop c.at doc)) (Ok (record { at = n.at; row = c.row + 1; text = n.text })) R R' T T'
    unfolding size text_of escapes_of rows_of key_got
    key_placed y z x h k g s =
        let v = key_got.spelt in
        Laws.took doc c p _ R R' T T' _
        (record {
          tree = leaf KEY c.at n.at key_got.value;
          is = name_is doc (rowless c) a T T' w n e;
          span =
              record {
                ahead = v.ahead;
                inside = v.inside;
                row = refl;
                text = key_text;
                escapes = ap tally v.end ∙ tally_on c.text (length key_got.value.bytes) key_got.value.escapes key_low;
                few_rows = omega (arith, v.ahead);
                few_text = v.few;
                few_escapes = v.scant;
              };
          filled =
              record {
                table =
                    s
                    ∙ (ap (λ (m : Words). sets R (width * c.row) (row_list unlined m.kind m.first m.after m.from m.to m.parent m.next)) g
                    ∙ rw (h, k ∙ key_text) refl);
                room = v.room;
              };
        })

-- ---- the row of a block

pub kind_object : (o : Bool) (k : Kind) → o ≡ true → k.0 ≡ OBJECT → k.0 ≡ kind_of o
kind_object o k e h = rw e h

pub kind_array : (o : Bool) (k : Kind) → o ≡ false → k.0 ≡ ARRAY → k.0 ≡ kind_of o
kind_array o k e h = rw e h

module _ (c : Cursor) (e count next : ℕ) (s : Enclosed c e count next) where
  pub enclosed_small : Small c.at e 0 count next
  enclosed_small = record { first_fits = s.first_fits; after_fits = s.after_fits; from_fits = omega arith; to_fits = s.count_fits; next_fits = s.next_fits }

  pub enclosed_row : c.row < ample
  enclosed_row = s.row_fits

pub enclosed_stored : (c : Cursor) (e count next parent : ℕ) (o : Bool) (k : Kind) (w : Words) (R R' : List ℕ) → k.0 ≡ kind_of o
    → w ≡ record { kind = k.0; first = c.at; after = e; from = 0; to = count; parent = parent; next = next }
    → R' ≡ sets R (width * c.row) (row_list unlined w.kind w.first w.after w.from w.to w.parent w.next)
    → R' ≡ sets R (width * c.row) (row_list unlined (kind_of o) c.at e 0 count parent next)
enclosed_stored c e count next parent o k w R R' h g s = s ∙ ap (λ (u : Words). sets R (width * c.row) (row_list unlined u.kind u.first u.after u.from u.to u.parent u.next)) g ∙ rw h refl

pub ruleset lining = (line_none, line_inside, line_cut, line_done, rules)

pub ruleset choosing = (asked_first, on_string, on_bytes, on_value, opens_string, opens_bytes, opens_value, nested_string, nested_joined, rules)

pub ruleset keying = (key_ready, key_none, key_small, key_placed, rules)

pub ruleset keeping = (kept_done, kept_bad, kind_object, kind_array, enclosed_small, enclosed_row, enclosed_stored, rules)
