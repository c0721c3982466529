-- What looks at bytes say of the readers: of a space, a line's end, the next line of a block, and how a block begins. Assumes nothing.
use mathlib.Core.Path.{◌≡◌, refl, sym, ap, ◌∙◌}
use mathlib.Core.List.{List, [], ◌∷◌, ◌++◌}
use mathlib.Core.Logic.{◌⊎◌, inl, inr}
use mathlib.Core.Bool.{Bool, true, false}
use Prim.Native.Nat.{ℕ, suc, ◌+◌, ◌≤◌, ◌<◌}
use native.Mathlib.Numerals.{add-one}
use native.Mathlib.Omega.{arith}
use lib.ListN.{length, drop}
use lib.Seq.{drop-drop}
use lib.Dec.{eqb}
use borrow.Author.Rules.{rules}
use borrow.Author.Tests.{eqb-true, eqb-false}
use Rattle.language.specs.Strings.{keybyte}
use Rattle.exact.specs.Class.{Class, ◌to◌, within, or, is, only, or_of, range_of, only_eq, only_yes, only_no}
use Rattle.exact.specs.Out.{Out, bind, reach, bad}
use Rattle.exact.specs.Lang.{byte_r}
use Rattle.exact.specs.Place.{peek, peek_cons, There, byte_there, none_there, there}
use Rattle.exact.specs.Block.{ind, lead}
use Rattle.exact.specs.Lines.{spaces, ind_short, ind_full, ind_peek}
use Rattle.rooms.specs.declared.Cursor.{Cursor}
use Rattle.rooms.specs.Contract.{Ans}
use Rattle.std.specs.declared.result.Result.TheVariants.{Err, Ok}
use Rattle.rooms.specs.Contract.{Takes}
use Rattle.rooms.specs.Indent.{spaces_lead}
use Rattle.rooms.specs.Laws
use Rattle.characters.specs.Reads.{Skip}
use Rattle.characters.specs.Reads.{Ends, Skips}
use Rattle.characters.specs.Comments.{optional_comment_r}
use Rattle.strings.specs.Contract.{Texts}
use Rattle.strings.specs.Keys.{key_s, name_r, key_r}
use Rattle.strings.specs.Quoted.{quoted_s}
use Rattle.blocks.specs.First.{refuted}
use Rattle.blocks.specs.KeyLook.{colon, keyed, dashed, key_none, key_end}
use Rattle.judge.specs.declared.Start.TheVariants.{Dash, Key, Line}
use Rattle.judge.specs.Members.{firsts}
use Rattle.judge.proofs.Names.{name_bad, name_is}
use Rattle.judge.specs.Contract.{feed_r, ends_r, Gap, one_space, no_space, two_spaces, Looked, Follows}

-- a test in code is a class
eqb_is : (a b : ℕ) → eqb b a ≡ is (only a) b
eqb_is a b = go (eqb b a) refl
  where
    go : (x : Bool) → eqb b a ≡ x → x ≡ is (only a) b
    go true e = sym (only_yes a b (eqb-true b a e))
    go false e = sym (only_no a b (eqb-false b a e))

-- ---- a space

module _ (doc : List ℕ) (c : Cursor) (t : Ans) (h : Takes doc c 32 t) where
  pub gap_none : (p : ℕ) → t ≡ Err p → Gap doc c (Err p)
  gap_none p e = no_space p (Laws.take_other doc c 32 t h p e)

  module _ (n : Cursor) (y : ℕ) (e : t ≡ Ok n) (g : y ≡ peek doc n.at) where
    behind : y ≡ peek doc (c.at + 1)
    behind = g ∙ ap (λ (m : Cursor). peek doc m.at) (Laws.take_next doc c 32 t h n e)

    pub gap_two : y ≡ 32 → Gap doc c (Err c.at)
    gap_two k = two_spaces c.at (Laws.take_byte doc c 32 t h n e) (sym k ∙ behind)

    pub gap_one : (y ≡ 32 → ⊥) → Gap doc c (Ok n)
    gap_one k = rw (Laws.take_next doc c 32 t h n e) (one_space (Laws.take_byte doc c 32 t h n e) (λ z. k (behind ∙ z)))

-- ---- the end of a line

pub feed_taken : (doc : List ℕ) (at : ℕ) (r : Skip) → Skips doc at (byte_r (is (only 10)) at (drop at doc)) r → Skips doc at (feed_r at (drop at doc)) r
unfolding feed_r
feed_taken doc at r h = h

module _ (doc : List ℕ) (at : ℕ) (root : Bool) where
  pub ends_feed : (r : Skip) → root ≡ true → Skips doc at (feed_r at (drop at doc)) r → Skips doc at (ends_r root at (drop at doc)) r
  unfolding ends_r
  ends_feed r e h = rw e h

  pub ends_bad : (r : Skip) (p : ℕ) → root ≡ false → r ≡ Err p → Skips doc at (optional_comment_r at (drop at doc)) r → Skips doc at (ends_r root at (drop at doc)) (Err p)
  unfolding ends_r Skips
  ends_bad r p e z h = let k : optional_comment_r at (drop at doc) ≡ bad p = rw z at h in rw e (ap (λ (o : Out (List ℕ)). bind o (λ _. feed_r)) k)

  pub ends_behind : (r : Skip) (n : ℕ) → r ≡ Ok n → Skips doc at (optional_comment_r at (drop at doc)) r → n ≤ length doc
  unfolding Skips
  ends_behind r n z h = let k : Ends doc at (optional_comment_r at (drop at doc)) n = rw z at h in k.inside

  pub ends_ok : (r s : Skip) (n : ℕ) → root ≡ false → r ≡ Ok n → Skips doc at (optional_comment_r at (drop at doc)) r → Skips doc n (feed_r n (drop n doc)) s → Skips doc at (ends_r root at (drop at doc)) s
  unfolding ends_r Skips
  ends_ok r s n e z h g =
      let k : Ends doc at (optional_comment_r at (drop at doc)) n = rw z at h in
      let q : ends_r root at (drop at doc) ≡ feed_r n (drop n doc) = rw e (ap (λ (o : Out (List ℕ)). bind o (λ _. feed_r)) k.is) in
      go s q k g
    where
      go : (s : Skip) → ends_r root at (drop at doc) ≡ feed_r n (drop n doc) → Ends doc at (optional_comment_r at (drop at doc)) n → Skips doc n (feed_r n (drop n doc)) s → Skips doc at (ends_r root at (drop at doc)) s
      go (Ok m) q k g = record { value = g.value; is = q ∙ g.is; behind = omega (arith, k.behind, g.behind); inside = g.inside }
      go (Err p) q k g = q ∙ g

-- ---- what a member begins with

abbrev quote : Class
quote = quoted_s.first

append_none : (c d : Class) (b : ℕ) → is d b ≡ false → is (c ++ d) b ≡ is c b
append_none [] d b e = e
append_none (r ∷ c) d b e = ap (or (within r b)) (append_none c d b e)

module _ (b : ℕ) where
  pub begins_double : b ≡ 34 → true ≡ is key_s.first b
  begins_double e = sym (rw e refl)

  pub begins_single : b ≡ 39 → true ≡ is key_s.first b
  begins_single e = sym (rw e refl)

  no_quote : (b ≡ 34 → ⊥) → (b ≡ 39 → ⊥) → is quote b ≡ false
  no_quote e f = refuted (is quote b) (λ x. go (or_of (within (34 to 34) b) (is (only 39) b) x))
    where
      go : (within (34 to 34) b ≡ true) ⊎ (is (only 39) b ≡ true) → ⊥
      go (inl x) = let r = range_of 34 34 b x in e (omega arith)
      go (inr x) = f (only_eq 39 b x)

  pub begins_bare : (x : Bool) → (b ≡ 34 → ⊥) → (b ≡ 39 → ⊥) → x ≡ is keybyte b → x ≡ is key_s.first b
  begins_bare x e f h = h ∙ sym (append_none keybyte quote b (no_quote e f))

  pub begins_object : (o x : Bool) → o ≡ true → x ≡ is key_s.first b → x ≡ is (firsts o) b
  begins_object o x e h = rw e h

  pub begins_array : (o : Bool) → o ≡ false → eqb b 45 ≡ is (firsts o) b
  begins_array o e = rw e (eqb_is 45 b)

-- ---- the next line of a block

module _ (o : Bool) (doc : List ℕ) (c : Cursor) (n i : ℕ) (h : i ≡ lead n (drop c.at doc)) (l : c.at + i ≤ length doc) (d : Cursor) (on : d ≡ record { at = c.at + i; row = c.row; text = c.text }) where
  ends_at : d.at ≡ c.at + lead n (drop c.at doc)
  ends_at = ap (λ (m : Cursor). m.at) on ∙ ap (c.at +◌) h

  pub line_short : i < n → Follows o doc c n (Err d.at)
  unfolding Follows
  line_short k =
      record {
        none = ind_short (is (firsts o)) n (drop c.at doc) (omega (arith, spaces_lead n (drop c.at doc)));
        upto = ends_at;
        inside = omega (arith, ap (λ (m : Cursor). m.at) on);
      }

  full_look : n ≤ i → i ≤ n → (b : ℕ) → b ≡ peek doc d.at → ind (is (firsts o)) n (drop c.at doc) ≡ is (firsts o) b
  full_look k m b g =
      let e : i ≡ n = omega arith in
      let s : spaces n (drop c.at doc) ≡ n = spaces_lead n (drop c.at doc) ∙ (sym h ∙ e) in
      let z : c.at + n ≡ d.at = omega (arith, ap (λ (m : Cursor). m.at) on) in
      ind_full (is (firsts o)) n (drop c.at doc) s
      ∙ (ap (ind (is (firsts o)) 0) (drop-drop n c.at doc)
      ∙ (ind_peek (firsts o) doc (c.at + n) (past o) ∙ ap (is (firsts o)) (ap (peek doc) z ∙ sym g)))
    where
      past : (o : Bool) → is (firsts o) 256 ≡ false
      past false = refl
      past true = refl

  pub line_more : (b : ℕ) (x : Bool) → n ≤ i → i ≤ n → b ≡ peek doc d.at → x ≡ is (firsts o) b → x ≡ true → Follows o doc c n (Ok d)
  unfolding Follows
  line_more b x k m g y z =
      let e : i ≡ n = omega arith in
      let t : d.at ≡ c.at + n = omega (arith, ap (λ (m : Cursor). m.at) on) in
      (record { begins = full_look k m b g ∙ (sym y ∙ z); there = t; full = sym h ∙ e }, rw on refl)

  pub line_other : (b : ℕ) (x : Bool) → n ≤ i → i ≤ n → b ≡ peek doc d.at → x ≡ is (firsts o) b → x ≡ false → Follows o doc c n (Err d.at)
  unfolding Follows
  line_other b x k m g y z =
      record { none = full_look k m b g ∙ (sym y ∙ z); upto = ends_at; inside = omega (arith, ap (λ (m : Cursor). m.at) on) }

-- ---- how a block begins

module _ (doc : List ℕ) (c : Cursor) (t : Ans) (h : Takes doc c 45 t) where
  pub dash_none : (p : ℕ) → t ≡ Err p → false ≡ dashed (drop c.at doc)
  dash_none p k = sym (go (there doc c.at))
    where
      go : There doc c.at → dashed (drop c.at doc) ≡ false
      go (byte_there e) = rw (e, only_no 45 (peek doc c.at) (Laws.take_other doc c 45 t h p k)) refl
      go (none_there e z) = rw e refl

  pub dash_some : (n : Cursor) (y : ℕ) → t ≡ Ok n → y ≡ peek doc n.at → eqb y 32 ≡ dashed (drop c.at doc)
  dash_some n y e f =
      let p : drop c.at doc ≡ 45 ∷ drop (suc c.at) doc = peek_cons doc c.at 45 (Laws.take_byte doc c 45 t h n e) (omega arith) in
      rw p (go (there doc (suc c.at)))
    where
      g : y ≡ peek doc (c.at + 1)
      g = f ∙ ap (λ (m : Cursor). peek doc m.at) (Laws.take_next doc c 45 t h n e)

      go : There doc (suc c.at) → eqb y 32 ≡ dashed (45 ∷ drop (suc c.at) doc)
      go (byte_there z) = rw z (eqb_is 32 y ∙ ap (is (only 32)) (rw add-one at g))
      go (none_there z w) = rw z (eqb_is 32 y ∙ ap (is (only 32)) ((rw add-one at g) ∙ w))

module _ (doc : List ℕ) (c : Cursor) (d : Bool) (hd : d ≡ dashed (drop c.at doc)) where
  pub look_dash : d ≡ true → Looked doc c.at Dash
  unfolding Looked
  look_dash e = sym hd ∙ e

  pub look_no_dash : d ≡ false → dashed (drop c.at doc) ≡ false
  look_no_dash e = sym hd ∙ e

  -- the first byte tells that no key begins here
  pub look_no_key : d ≡ false → (b : ℕ) (x : Bool) → b ≡ peek doc c.at → x ≡ is key_s.first b → x ≡ false → Looked doc c.at (Line c.at)
  unfolding Looked
  look_no_key e b x g y z = record { no_dash = sym hd ∙ e; no_key = ap keyed none; stops = sym (ap reach none) }
    where
      go : There doc c.at → key_r c.at (drop c.at doc) ≡ bad c.at
      go (byte_there k) = rw k (key_none c.at (peek doc c.at) (drop (suc c.at) doc) (ap (is key_s.first) (sym g) ∙ (sym y ∙ z)))
      go (none_there k _) = rw k (key_end c.at)

      none : key_r c.at (drop c.at doc) ≡ bad c.at
      none = go (there doc c.at)

module _ (doc : List ℕ) (c : Cursor) (T T' : List ℕ) (hd : dashed (drop c.at doc) ≡ false) (a : Ans) (w : Texts doc c (name_r c.at (drop c.at doc)) a T T') where
  pub look_none : (q : ℕ) → a ≡ Err q → Looked doc c.at (Line q)
  unfolding Looked
  look_none q z = let k = name_bad doc c a T T' w q z in record { no_dash = hd; no_key = ap keyed k; stops = sym (ap reach k) }

  module _ (n : Cursor) (b : ℕ) (z : a ≡ Ok n) (g : b ≡ peek doc n.at) where
    key_there : keyed (key_r c.at (drop c.at doc)) ≡ is (only 58) b
    key_there = ap keyed (name_is doc c a T T' w n z) ∙ go (there doc n.at)
      where
        go : There doc n.at → colon (drop n.at doc) ≡ is (only 58) b
        go (byte_there y) = rw (y, ← g) refl
        go (none_there y x) = rw (y, g, x) refl

    pub look_key : b ≡ 58 → Looked doc c.at Key
    unfolding Looked
    look_key y = key_there ∙ only_yes 58 b y

    pub look_other : (b ≡ 58 → ⊥) → Looked doc c.at (Line n.at)
    unfolding Looked
    look_other y = record { no_dash = hd; no_key = key_there ∙ only_no 58 b y; stops = sym (ap reach (name_is doc c a T T' w n z)) }

pub ruleset spacing = (gap_none, gap_two, gap_one, rules)

pub ruleset ending = (feed_taken, ends_feed, ends_bad, ends_behind, ends_ok, rules)

pub ruleset following = (begins_double, begins_single, begins_bare, begins_object, begins_array, line_short, line_more, line_other, rules)

pub ruleset looking = (dash_none, dash_some, look_dash, look_no_dash, look_no_key, look_none, look_key, look_other, rules)
