-- Lines that add bytes, one after another, up to the LF of the last: laws as `search` takes them. Assumes nothing.
use mathlib.Core.Path.{◌≡◌, refl, sym, ap, subst, ◌∙◌}
use mathlib.Core.List.{List, [], ◌∷◌, ◌++◌}
use mathlib.Core.Bool.{Bool, true, false}
use Prim.Native.Nat.{ℕ, ◌+◌, ◌≤◌, ◌<◌, ◌*◌}
use native.Mathlib.Nat.{add-zero}
use native.Mathlib.Omega.{arith}
use lib.ListN.{length, drop, length-append}
use lib.Seq.{sets}
use borrow.Author.Rules.{rules}
use Rattle.exact.specs.Class.{pick, is, only, only_eq, only_is, only_no, clash}
use Rattle.exact.specs.Out.{Out, Reader, Tame, soft, bad}
use Rattle.exact.specs.Lang.{byte_r}
use Rattle.exact.specs.Block.{many_g}
use Rattle.exact.specs.Place.{peek, peek_in}
use Rattle.language.specs.Tree.{unlined, Tree, Decoded, ◌then◌, width, row_list}
use Rattle.language.specs.BlockText.{Part, part, part_text, part_end}
use Rattle.characters.specs.Reads.{Skip}
use Rattle.std.specs.declared.result.Result.TheVariants.{Err, Ok}
use Rattle.characters.specs.Reads.{Skips, Ends}
use Rattle.characters.specs.Takes.{take_byte, take_place, take_other}
use Rattle.blocktext.specs.Contract.{Asked}
use Rattle.strings.specs.Joining.{then_assoc, then_nil, none_then}
use Rattle.rooms.specs.declared.Words.{Words}
use Rattle.rooms.specs.Told.{ESCAPE, spot, tally, told, spot_on, tally_on}
use Rattle.rooms.specs.declared.Cursor.{Cursor}
use Rattle.rooms.specs.Contract.{Ans}
use Rattle.rooms.specs.Contract.{Block}
use Rattle.rooms.specs.Contract.{Takes, Ready, Small, Blocks}
use Rattle.rooms.specs.Stores.{sets_append}
use Rattle.blocktext.specs.Going.{Going, going_first, going_over, going_bad, going_on}
use Rattle.blocktext.specs.Leaves.{Begun, Rowed, Furthers, went, stopped}
use Rattle.blocktext.specs.Parts.{closes, no_end, no_close, Closing, Parted, PartAt}

-- ---- a leader whose first byte is known
pub not_led : (doc : List ℕ) (c : Cursor) (b col : ℕ) → Asked doc c b col → (a : Ans) → Takes doc c b a → (p : ℕ) → a ≡ Err p
    → (parent : ℕ) (o : Out Tree) (R T : List ℕ) → Blocks doc c parent o (Err p) R R T T
not_led doc c b col i a t p z parent o R T = absurd (Rattle.rooms.specs.Laws.take_other doc c b a t p z i.first)

-- ---- an LF behind what was passed over
module _ (doc : List ℕ) (n : Cursor) where
  pub closes_bad : (g : Skip) (p : ℕ) → g ≡ Err p → Err p ≡ closes doc n g
  unfolding closes
  closes_bad g p z = rw z refl

  module _ (g : Skip) (e : ℕ) (z : g ≡ Ok e) (k : Skip) (t : Skips doc e (byte_r (is (only 10)) e (drop e doc)) k) where
    pub closes_open : (p : ℕ) → k ≡ Err p → Err p ≡ closes doc n g
    unfolding closes
    closes_open p y = rw (z, take_place doc e 10 (omega arith) k t p y, only_no 10 (peek doc e) (take_other doc e 10 (omega arith) k t p y)) refl

    pub closes_end : (m : ℕ) → k ≡ Ok m → Ok (record { at = e; row = n.row; text = n.text }) ≡ closes doc n g
    unfolding closes
    closes_end m y = rw (z, ← take_byte doc e 10 (omega arith) k t m y) refl

pub ruleset closed = (closes_bad, closes_open, closes_end, rules)

pub closing : {X : Type 0} (doc : List ℕ) (at : ℕ) (o : Out X) (n : Cursor) (g : Skip) (r : Ans) → Skips doc at o g → r ≡ closes doc n g → Closing doc at o n r
unfolding Closing Skips closes
closing doc at o n g r s z = subst (λ (q : Ans). Closing doc at o n q) (sym z) (go g s)
  where
    by : (e : ℕ) → Ends doc at o e → (x : Bool) → is (only 10) (peek doc e) ≡ x → Closing doc at o n (pick x (Ok (record { at = e; row = n.row; text = n.text })) (Err e))
    by e i true y =
        let f : peek doc e ≡ 10 = only_eq 10 (peek doc e) y in
        record { value = i.value; is = i.is; from = i.behind; inside = peek_in doc e 10 (sym f) (omega arith); feed = f; row = refl; text = refl }
    by e i false y = no_close i.value i.is (λ f. clash (ap (is (only 10)) f ∙ only_is 10) y)

    go : (g : Skip) → Skips doc at o g → Closing doc at o n (closes doc n g)
    go (Ok e) i = by e i (is (only 10) (peek doc e)) refl
    go (Err p) i = no_end i

-- ---- the parts, up to the LF at n so far
pub record Parting (g : List ℕ → Bool) (w : List ℕ → ℕ) (r : Reader Part) (doc : List ℕ) (c : Cursor) (e x : ℕ) (n : Cursor) (T₀ T : List ℕ) : Type 0 where
  pub parts : List Part
  pub going : Going g w r doc (e + 1) (n.at + 1) parts
  pub ends : n.at ≡ part_end e parts
  pub text : n.text ≡ x + told (part_text parts)
  pub start : spot x ≤ e
  pub few : e + length (part_text parts).bytes ≤ n.at
  pub scant : e + (part_text parts).escapes ≤ n.at
  pub room : T ≡ sets T₀ (spot x) (part_text parts).bytes
  pub inside : n.at < length doc
  pub ready : Ready doc c
  pub ahead : c.at < n.at
  pub spare : spot n.text ≤ n.at
  pub thin : tally n.text ≤ n.at

end_snoc : (e : ℕ) (ps : List Part) (s : Decoded) (f : ℕ) → part_end e (ps ++ part s f ∷ []) ≡ f
end_snoc e [] s f = refl
end_snoc e (part u d ∷ ps) s f = end_snoc d ps s f

text_snoc : (ps : List Part) (s : Decoded) (f : ℕ) → part_text (ps ++ part s f ∷ []) ≡ part_text ps then s
text_snoc [] s f = then_nil s ∙ sym (none_then s)
text_snoc (part u d ∷ ps) s f = ap (u then◌) (text_snoc ps s f) ∙ sym (then_assoc u (part_text ps) s)

module _ (g : List ℕ → Bool) (w : List ℕ → ℕ) (r : Reader Part) (doc : List ℕ) (c : Cursor) (e x : ℕ) where
  pub part_first : (col : ℕ) (row : ℕ) (T : List ℕ) → Begun doc c e x col → Parting g w r doc c e x (record { at = e; row = row; text = x }) T T
  part_first col row T i =
      record {
        parts = [];
        going = going_first g w r doc (e + 1);
        ends = refl;
        text = sym (add-zero x);
        start = i.few;
        few = omega arith;
        scant = omega arith;
        room = refl;
        inside = i.inside;
        ready = i.ready;
        ahead = i.ahead;
        spare = i.few;
        thin = i.scant;
      }

  module _ (n : Cursor) (T₀ T : List ℕ) (i : Parting g w r doc c e x n T₀ T) where
    pub part_on : Tame 1 r → (d m : Cursor) (o : Out Part) (a : Ans) (T' : List ℕ) → g (drop (n.at + 1) doc) ≡ true → r (n.at + 1) (drop (n.at + 1) doc) ≡ o → n.at < d.at
        → d.text ≡ n.text → PartAt doc d o a T T' → a ≡ Ok m → Parting g w r doc c e x m T₀ T'
    unfolding PartAt
    part_on tame d m o a T' look h l k p z =
        let q : Parted doc d o m T T' = rw z at p in
        let u = part_text i.parts in
        let v = q.bytes in
        let s : part_text (i.parts ++ part v m.at ∷ []) ≡ u then v = text_snoc i.parts v m.at in
        let y : length (u.bytes ++ v.bytes) ≡ length u.bytes + length v.bytes = length-append u.bytes v.bytes in
        let b : spot n.text ≡ spot x + length u.bytes = ap spot i.text ∙ spot_on x (length u.bytes) u.escapes (omega (arith, i.start, i.few, i.inside, i.ready.small)) in
        let f : spot n.text + length v.bytes < ESCAPE = omega (arith, i.spare, q.few, q.inside, i.ready.small) in
        let on : m.text ≡ n.text + told v = q.end ∙ ap (◌+ told v) k in
        let tx : spot m.text ≡ spot n.text + length v.bytes = ap spot on ∙ spot_on n.text (length v.bytes) v.escapes f in
        let ty : tally m.text ≡ tally n.text + v.escapes = ap tally on ∙ tally_on n.text (length v.bytes) v.escapes f in
        record {
          parts = i.parts ++ part v m.at ∷ [];
          going =
              going_on g w r doc (e + 1) (n.at + 1) i.parts tame q.far (part v m.at) (m.at + 1) look (h ∙ q.reads) q.near (omega (arith, q.ahead)) (omega (arith, q.inside)) i.going;
          ends = sym (end_snoc e i.parts v m.at);
          text = rw s (omega (arith, i.text));
          start = i.start;
          few = rw s (omega (arith, q.few, i.few));
          scant = rw s (omega (arith, q.scant, i.scant));
          room =
              rw s
              (q.room
              ∙ (ap (λ t. sets t (spot d.text) v.bytes) i.room
              ∙ (ap (λ j. sets (sets T₀ (spot x) u.bytes) j v.bytes) (ap spot k ∙ b) ∙ sym (sets_append T₀ (spot x) u.bytes v.bytes))));
          inside = q.inside;
          ready = i.ready;
          ahead = omega (arith, q.ahead, i.ahead);
          spare = omega (arith, q.few, i.spare);
          thin = omega (arith, q.scant, i.thin);
        }

    pub part_small : Small c.at n.at (spot c.text) (spot n.text) (c.row + 1)
    part_small =
        let a = i.ready.small in
        let b = i.ready.few_rows in
        let d = i.ready.few_text in
        let f = i.inside in
        let h = i.ahead in
        let k = i.spare in
        record { first_fits = omega arith; after_fits = omega arith; from_fits = omega arith; to_fits = omega arith; next_fits = omega arith }

    pub part_done : (parent kind far : ℕ) (b : Block) (R R' : List ℕ) → g (drop (n.at + 1) doc) ≡ false → far ≡ n.at + 1 + w (drop (n.at + 1) doc)
        → Rowed c parent kind (n.at + 1) n.text far n.at b R R' → Furthers doc c parent kind (many_g g w r (e + 1) (drop (e + 1) doc)) (part_end e) part_text (e + 1) x b R R' T₀ T
    part_done parent kind far b R R' look f y =
        went
        (record {
          value = i.parts;
          at = n.at + 1;
          far = far;
          reads = going_over g w r doc (e + 1) (n.at + 1) i.parts look i.going ∙ ap (λ j. soft j i.parts (n.at + 1) (drop (n.at + 1) doc)) (sym f);
          room = i.room;
          row =
              subst (λ j. Rowed c parent kind (n.at + 1) (x + told (part_text i.parts)) far j b R R') i.ends
              (subst (λ j. Rowed c parent kind (n.at + 1) j far n.at b R R') i.text y);
          inside = omega (arith, i.inside);
          inner = omega (arith, i.ends);
          few = omega (arith, i.few);
          scant = omega (arith, i.scant);
          ahead = omega arith;
        })

    pub part_stop : (parent kind p : ℕ) (o : Out Part) (d : Cursor) (a : Ans) (R R' T' : List ℕ) → g (drop (n.at + 1) doc) ≡ true → r (n.at + 1) (drop (n.at + 1) doc) ≡ o → n.at + 1 < length doc
        → PartAt doc d o a T T' → a ≡ Err p → Furthers doc c parent kind (many_g g w r (e + 1) (drop (e + 1) doc)) (part_end e) part_text (e + 1) x (Err p) R R' T₀ T'
    unfolding PartAt
    part_stop parent kind p o d a R R' T' look h l q z =
        let y : o ≡ bad p = rw z at q in
        stopped p refl (going_bad g w r doc (e + 1) (n.at + 1) i.parts p l look (h ∙ y) i.going)

-- ---- the row of a leaf
pub rowed : (c : Cursor) (parent kind at x far e y z : ℕ) (w : Words) (R R' : List ℕ) → y ≡ spot c.text → z ≡ spot x
    → w ≡ record { kind = kind; first = c.at; after = e; from = y; to = z; parent = parent; next = c.row + 1 }
    → R' ≡ sets R (width * c.row) (row_list unlined w.kind w.first w.after w.from w.to w.parent w.next)
    → Rowed c parent kind at x far e (Ok (record { at = at; row = c.row + 1; text = x }, far, e)) R R'
rowed c parent kind at x far e y z w R R' a b h r = record { is = refl; table = rw (h, a, b) at r }

pub ruleset rows = (rowed, rules)
