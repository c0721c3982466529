-- Joined strings: a line, the lines below it, and the block that they make. Laws as `search` takes them. Assumes nothing.
use mathlib.Core.Path.{◌≡◌, refl, sym, ap, subst, ◌∙◌}
use mathlib.Core.List.{List, [], ◌∷◌}
use mathlib.Core.Bool.{Bool, true, false}
use Prim.Native.Nat.{ℕ, zero, suc, ◌+◌, ◌≤◌, ◌<◌}
use native.Mathlib.Omega.{arith}
use lib.ListN.{length, drop}
use lib.Dec.{lit<}
use borrow.Author.Rules.{rules}
use Rattle.exact.specs.Class.{is, clash, or_of, within, range_of, ◌to◌, nothing}
use Rattle.exact.specs.Out.{Out, bind, ok, soft, bad, Tame, Firm}
use Rattle.exact.specs.Lang.{None, within_bar, weaken}
use Rattle.exact.specs.Answers.{map_fmap}
use Rattle.exact.specs.Comb.{map_r}
use Rattle.exact.specs.Block.{ind, lead, indented_r, indented_exact, ind_fails}
use Rattle.exact.specs.Lines.{reached}
use Rattle.exact.specs.More.{ll_shuts}
use Rattle.exact.specs.Place.{peek, peek_in}
use Rattle.language.specs.Kind.{STRING}
use Rattle.language.specs.BlockText.{part, part_text, part_end}
use Rattle.strings.specs.Joining.{itself}
use Rattle.rooms.specs.Told.{ESCAPE, spot, tally, spot_on, tally_on}
use Rattle.rooms.specs.declared.Cursor.{Cursor}
use Rattle.rooms.specs.Contract.{Ans}
use Rattle.std.specs.declared.result.Result.TheVariants.{Err, Ok}
use Rattle.rooms.specs.Contract.{Block}
use Rattle.rooms.specs.Contract.{columns, Takes, Ready, Blocks}
use Rattle.rooms.specs.Laws.{take_byte, take_place, take_other, not_block}
use Rattle.strings.specs.Contract.{Texted, Texts}
use Rattle.strings.specs.Quoted.{quoted_r}
use Rattle.blocktext.specs.Plus.{plus_r}
use Rattle.blocktext.specs.LineEnd.{line_end_r}
use Rattle.blocktext.specs.LineLooks.{line_closed, line_open}
use Rattle.blocktext.specs.Further.{further_r}
use Rattle.blocktext.specs.Joined.{quotes, joined_line_r, joined_line_ll, joined_tree, joined_more_r, joined_r}
use Rattle.blocktext.specs.NextLine.{NextAt, Follows, Ceases, next_short, next_other, next_quote}
use Rattle.blocktext.specs.NextLine.{Next}
use Rattle.blocktext.specs.Leaves.{Begun, Rowed, Furthers, stopped, block_of}
use Rattle.blocktext.specs.Parts.{Parted, PartAt, further_plus}
use Rattle.blocktext.proofs.PartLaws.{Parting, part_on, part_done, part_stop}

-- ---- where a further line begins
module _ (doc : List ℕ) (col a i : ℕ) (h : i ≡ lead col (drop a doc)) where
  pub see_short : i < col → NextAt doc col a (Err (a + i))
  unfolding NextAt
  see_short l = next_short doc col a i h l

  module _ (le : i ≤ col) (l : col ≤ i) (b : ℕ) (k : b ≡ peek doc (a + i)) where
    pub see_double : b ≡ 34 → NextAt doc col a (Ok (a + i))
    unfolding NextAt
    see_double e = next_quote doc col a i h le l (ap (is quotes) (sym k ∙ e)) (peek_in doc (a + i) b k (omega arith))

    pub see_single : b ≡ 39 → NextAt doc col a (Ok (a + i))
    unfolding NextAt
    see_single e = next_quote doc col a i h le l (ap (is quotes) (sym k ∙ e)) (peek_in doc (a + i) b k (omega arith))

    pub see_none : (b ≡ 34 → ⊥) → (b ≡ 39 → ⊥) → NextAt doc col a (Err (a + i))
    unfolding NextAt
    see_none n m = next_other doc col a i h le l (by (is quotes (peek doc (a + i))) refl)
      where
        single : Rattle.exact.specs.Class.or (within (39 to 39) (peek doc (a + i))) false ≡ true → ⊥
        single z = go (or_of (within (39 to 39) (peek doc (a + i))) false z)
          where
            go : mathlib.Core.Logic.◌⊎◌ (within (39 to 39) (peek doc (a + i)) ≡ true) (false ≡ true) → ⊥
            go (mathlib.Core.Logic.inl y) = let r = range_of 39 39 (peek doc (a + i)) y in m (omega arith)
            go (mathlib.Core.Logic.inr y) = clash y refl

        quote : is quotes (peek doc (a + i)) ≡ true → ⊥
        quote z = go (or_of (within (34 to 34) (peek doc (a + i))) _ z)
          where
            go : mathlib.Core.Logic.◌⊎◌ (within (34 to 34) (peek doc (a + i)) ≡ true) (Rattle.exact.specs.Class.or (within (39 to 39) (peek doc (a + i))) false ≡ true) → ⊥
            go (mathlib.Core.Logic.inl y) = let r = range_of 34 34 (peek doc (a + i)) y in n (omega arith)
            go (mathlib.Core.Logic.inr y) = single y

        by : (x : Bool) → is quotes (peek doc (a + i)) ≡ x → x ≡ false
        by true z = absurd (quote z)
        by false z = refl

-- ---- one line
module _ (doc : List ℕ) (c : Cursor) (g : Ans) (T T' : List ℕ) (x : Texts doc c (quoted_r c.at (drop c.at doc)) g T T') where
  pub line_bad : (p : ℕ) → g ≡ Err p → PartAt doc c (joined_line_r c.at (drop c.at doc)) (Err p) T T'
  unfolding Texts PartAt joined_line_r
  line_bad p z = ap (λ o. bind o (λ s. line_end_r (part s))) (rw z at x)

  module _ (n : Cursor) (z : g ≡ Ok n) (a : Ans) (k : Takes doc n 10 a) where
    texted : Texted itself doc c (quoted_r c.at (drop c.at doc)) n 0 T T'
    unfolding Texts
    texted = rw z at x

    pub line_not : (p : ℕ) → a ≡ Err p → PartAt doc c (joined_line_r c.at (drop c.at doc)) (Err p) T T'
    unfolding PartAt joined_line_r
    line_not p h =
        ap (λ o. bind o (λ s. line_end_r (part s))) texted.is ∙ (line_open (part texted.value) doc n.at (take_other doc n 10 a k p h) ∙ ap bad (sym (take_place doc n 10 a k p h)))

    pub line_end : (m : Cursor) → a ≡ Ok m → PartAt doc c (joined_line_r c.at (drop c.at doc)) (Ok n) T T'
    unfolding PartAt joined_line_r
    line_end m h =
        let t = texted.spelt in
        let f = take_byte doc n 10 a k m h in
        record {
          bytes = texted.value;
          far = 0;
          reads = ap (λ o. bind o (λ s. line_end_r (part s))) texted.is ∙ line_closed (part texted.value) doc n.at (sym f);
          near = omega arith;
          ahead = t.ahead;
          inside = peek_in doc n.at 10 f (omega arith);
          end = t.end;
          few = t.few;
          scant = t.scant;
          room = t.room;
        }

pub ruleset one_line = (line_bad, line_not, line_end, rules)

pub ruleset next_lines = (see_short, see_double, see_single, see_none, rules)

-- ---- further lines below the LF at e
tame : (col : ℕ) → Tame 1 (indented_r col joined_line_r)
tame col = (indented_exact col (weaken 1 None (omega arith) (within_bar _ None nothing) joined_line_ll.exact)).moves

line_shuts : (at : ℕ) (s : List ℕ) → ind (is quotes) 0 s ≡ false → joined_line_r at s ≡ bad at
line_shuts at [] e = (ll_shuts refl joined_line_ll).at_none at
line_shuts at (b ∷ s) e = (ll_shuts refl joined_line_ll).not at b s e

module _ (doc : List ℕ) (c : Cursor) (col e x : ℕ) where
  abbrev pub JoinedLining : Cursor → List ℕ → List ℕ → Type 0
  JoinedLining n T₀ T = Parting (ind (is quotes) col) (lead col) (indented_r col joined_line_r) doc c e x n T₀ T

  module _ (n : Cursor) (T₀ T : List ℕ) (i : JoinedLining n T₀ T) (g : Next) (y : NextAt doc col (n.at + 1) g) where
    pub lines_done : (parent far : ℕ) (b : Block) (R R' : List ℕ) → g ≡ Err far → Rowed c parent STRING (n.at + 1) n.text far n.at b R R'
        → Furthers doc c parent STRING (further_r quotes col joined_line_r (e + 1) (drop (e + 1) doc)) (part_end e) part_text (e + 1) x b R R' T₀ T
    unfolding NextAt
    lines_done parent far b R R' z w =
        let q : Ceases doc col (n.at + 1) far = rw z at y in
        part_done (ind (is quotes) col) (lead col) (indented_r col joined_line_r) doc c e x n T₀ T i parent STRING far b R R' q.look q.reach w

    module _ (s : ℕ) (z : g ≡ Ok s) where
      follows : Follows doc col (n.at + 1) s
      unfolding NextAt
      follows = rw z at y

      pub lines_ready : Ready doc (record { at = s; row = 0; text = n.text })
      lines_ready =
          let a = i.ahead in
          let b = i.spare in
          let d = i.ready.few_rows in
          record { small = i.ready.small; inside = omega (arith, follows.inside); few_rows = omega (arith, follows.from); few_text = omega (arith, follows.from); few_escapes = omega (arith, follows.from, i.thin) }

      module _ (a : Ans) (T' : List ℕ) (p : PartAt doc (record { at = s; row = 0; text = n.text }) (joined_line_r s (drop s doc)) a T T') where
        pub lines_stop : (parent u : ℕ) (R R' : List ℕ) → a ≡ Err u
            → Furthers doc c parent STRING (further_r quotes col joined_line_r (e + 1) (drop (e + 1) doc)) (part_end e) part_text (e + 1) x (Err u) R R' T₀ T'
        lines_stop parent u R R' w =
            part_stop (ind (is quotes) col) (lead col) (indented_r col joined_line_r) doc c e x n T₀ T i parent STRING u (joined_line_r s (drop s doc)) (record { at = s; row = 0; text = n.text })
            a R R' T' follows.look follows.is (omega (arith, follows.from, follows.inside)) p w

        pub lines_on : (m : Cursor) → a ≡ Ok m → JoinedLining m T₀ T'
        lines_on m w =
            part_on (ind (is quotes) col) (lead col) (indented_r col joined_line_r) doc c e x n T₀ T i (tame col) (record { at = s; row = 0; text = n.text }) m (joined_line_r s (drop s doc)) a T'
            follows.look follows.is (omega (arith, follows.from)) refl p w

        pub lines_further : (m : Cursor) → a ≡ Ok m → (n.at < m.at) × (m.at < length doc)
        unfolding PartAt
        lines_further m w =
            let q : Parted doc (record { at = s; row = 0; text = n.text }) (joined_line_r s (drop s doc)) m T T' = rw w at p in
            (omega (arith, q.ahead, follows.from), q.inside)

-- ---- at least one
module _ (doc : List ℕ) (c : Cursor) (col e x : ℕ) (i : Begun doc c e x col) (g : Next) (y : NextAt doc col (e + 1) g) where
  pub more_none : (parent far : ℕ) (R T : List ℕ) → g ≡ Err far
      → Furthers doc c parent STRING (plus_r (indented_r col joined_line_r) (further_r quotes col joined_line_r) (e + 1) (drop (e + 1) doc)) (part_end 0) part_text (e + 1) x (Err far) R R T T
  unfolding NextAt
  more_none parent far R T z =
      let q : Ceases doc col (e + 1) far = rw z at y in
      stopped far refl
      (ap (λ o. bind o (λ v. map_r (v ∷◌) (further_r quotes col joined_line_r))) (ind_fails (is quotes) joined_line_r line_shuts col (e + 1) (drop (e + 1) doc) q.look ∙ ap bad (sym q.reach)))

  module _ (s : ℕ) (z : g ≡ Ok s) where
    there : Follows doc col (e + 1) s
    unfolding NextAt
    there = rw z at y

    pub more_ready : Ready doc (record { at = s; row = 0; text = x })
    more_ready =
        let a = i.ahead in
        let b = i.few in
        let d = i.ready.few_rows in
        record { small = i.ready.small; inside = omega (arith, there.inside); few_rows = omega (arith, there.from); few_text = omega (arith, there.from); few_escapes = omega (arith, there.from, i.scant) }

    module _ (a : Ans) (T T₁ : List ℕ) (p : PartAt doc (record { at = s; row = 0; text = x }) (joined_line_r s (drop s doc)) a T T₁) where
      pub more_stop : (parent u : ℕ) (R : List ℕ) → a ≡ Err u
          → Furthers doc c parent STRING (plus_r (indented_r col joined_line_r) (further_r quotes col joined_line_r) (e + 1) (drop (e + 1) doc)) (part_end 0) part_text (e + 1) x (Err u) R R T T₁
      unfolding PartAt
      more_stop parent u R w =
          let q : joined_line_r s (drop s doc) ≡ bad u = rw w at p in
          stopped u refl (ap (λ o. bind o (λ v. map_r (v ∷◌) (further_r quotes col joined_line_r))) (there.is ∙ q))

      module _ (n : Cursor) (w : a ≡ Ok n) where
        line : Parted doc (record { at = s; row = 0; text = x }) (joined_line_r s (drop s doc)) n T T₁
        unfolding PartAt
        line = rw w at p

        line_fits : spot x + length line.bytes.bytes < ESCAPE
        line_fits = omega (arith, i.ready.small, i.few, line.few, line.inside, there.from)

        pub more_begun : Begun doc c n.at n.text col
        more_begun =
            let d = i.few in
            let f = i.ahead in
            let p = ap spot line.end ∙ spot_on x (length line.bytes.bytes) line.bytes.escapes line_fits in
            let q = ap tally line.end ∙ tally_on x (length line.bytes.bytes) line.bytes.escapes line_fits in
            record {
              ready = i.ready;
              ahead = omega (arith, line.ahead, there.from);
              inside = line.inside;
              few = omega (arith, line.few, there.from);
              scant = omega (arith, line.scant, there.from, i.scant);
              low = i.low;
            }

        pub more_went : (parent : ℕ) (r : Block) (R R' T' : List ℕ)
            → Furthers doc c parent STRING (further_r quotes col joined_line_r (n.at + 1) (drop (n.at + 1) doc)) (part_end n.at) part_text (n.at + 1) n.text r R R' T₁ T'
            → Furthers doc c parent STRING (plus_r (indented_r col joined_line_r) (further_r quotes col joined_line_r) (e + 1) (drop (e + 1) doc)) (part_end 0) part_text (e + 1) x r R R' T T'
        more_went parent r R R' T' f =
            further_plus (ind (is quotes) col) (lead col) (indented_r col joined_line_r) (tame col) doc c parent STRING (indented_r col joined_line_r (e + 1) (drop (e + 1) doc)) (e + 1) x line.far n.at
            line.bytes r R R' T T₁ T' (there.is ∙ line.reads) line.near line.room (omega (arith, line.few, there.from)) (omega (arith, line.scant, there.from)) line_fits
            (subst (λ j. Furthers doc c parent STRING (further_r quotes col joined_line_r (n.at + 1) (drop (n.at + 1) doc)) (part_end n.at) part_text (n.at + 1) j r R R' T₁ T') line.end f)

-- ---- the block
firm_ok : {X : Type 0} (o : Out X) (far : ℕ) (v : X) (a : ℕ) (t : List ℕ) → Firm o → o ≡ reached far v a t → o ≡ ok v a t
firm_ok o zero v a t f h = h
firm_ok {X} o (suc q) v a t f h = absurd (no (subst (λ (u : Out X). Firm u) h f))
  where
    no : Firm {X = X} (soft (suc q) v a t) → ⊥
    no x = elim x [ ]

module _ (doc : List ℕ) (c : Cursor) (col : ℕ) (i : Ready doc c) (low : col ≤ columns) (a : Ans) (T T₁ : List ℕ)
    (p : PartAt doc (record { at = c.at; row = 0; text = c.text }) (joined_line_r c.at (drop c.at doc)) a T T₁) where
  pub joined_stop : (parent u : ℕ) (R : List ℕ) → a ≡ Err u → Blocks doc c parent (joined_r col c.at (drop c.at doc)) (Err u) R R T T₁
  unfolding PartAt joined_r
  joined_stop parent u R w =
      let q : joined_line_r c.at (drop c.at doc) ≡ bad u = rw w at p in
      not_block doc c parent _ R R T T₁ u (ap (λ o. bind o (joined_more_r col c.at)) q)

  module _ (n : Cursor) (w : a ≡ Ok n) where
    first : Parted doc (record { at = c.at; row = 0; text = c.text }) (joined_line_r c.at (drop c.at doc)) n T T₁
    unfolding PartAt
    first = rw w at p

    first_fits : spot c.text + length first.bytes.bytes < ESCAPE
    first_fits = omega (arith, i.small, i.few_text, first.few, first.inside)

    pub joined_begun : Begun doc c n.at n.text col
    joined_begun =
        let d = i.few_text in
        let p = ap spot first.end ∙ spot_on c.text (length first.bytes.bytes) first.bytes.escapes first_fits in
        let q = ap tally first.end ∙ tally_on c.text (length first.bytes.bytes) first.bytes.escapes first_fits in
        record { ready = i; ahead = first.ahead; inside = first.inside; few = omega (arith, first.few); scant = omega (arith, first.scant, i.few_escapes); low = low }

    pub joined_block : (parent : ℕ) (r : Block) (R R' T' : List ℕ)
        → Furthers doc c parent STRING (plus_r (indented_r col joined_line_r) (further_r quotes col joined_line_r) (n.at + 1) (drop (n.at + 1) doc)) (part_end 0) part_text (n.at + 1) n.text r R R' T₁ T'
        → Blocks doc c parent (joined_r col c.at (drop c.at doc)) r R R' T T'
    unfolding joined_r
    joined_block parent r R R' T' f =
        block_of doc c parent STRING (plus_r (indented_r col joined_line_r) (further_r quotes col joined_line_r) (n.at + 1) (drop (n.at + 1) doc)) (part_end 0) part_text (n.at + 1) n.text r R R' T T₁ T' _
        first.bytes
        i
        (ap (λ o. bind o (joined_more_r col c.at))
        (firm_ok (joined_line_r c.at (drop c.at doc)) first.far (part first.bytes n.at) (n.at + 1) (drop (n.at + 1) doc) (joined_line_ll.firm c.at (drop c.at doc)) first.reads)
        ∙ map_fmap (joined_tree c.at (part first.bytes n.at)) (plus_r (indented_r col joined_line_r) (further_r quotes col joined_line_r) (n.at + 1) (drop (n.at + 1) doc)))
        (lit< tt)
        first.room
        first.end
        (omega (arith, first.few))
        (omega (arith, first.scant))
        f
