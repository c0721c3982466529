-- EXACTLY THREE KEYS: an object without repeated keys that has the three of a sheet has no other exactly if its count is 3. Assumes nothing.
use Rattle.std.specs.Prelude.{◌≡◌, refl, ◌⊎◌, List, ℕ, suc, ◌+◌, length, get_or}
use Rattle.std.proofs.Common.{sym, ap, subst, ◌∙◌, inl, inr, arith}
use Rattle.language.specs.Kind.{KEY}
use Rattle.language.specs.Tree.{Decoded, Tree, leaf, Forest, none, more, has_later, Repeated, again, beside}
use Rattle.shaped.specs.Shaped.{Shaped, Pairs, pairs_none, pairs_more}
use Rattle.upgrade.specs.Sheet.{Under, under_here, under_later, VERSION, FLOOR, IMAGE, Named, named_version, named_floor, named_image}
use Rattle.upgrade.specs.Unique.{under_has}
use Rattle.decide.specs.Found.{First, it, behind, first_pair}

-- no key stands twice
pub data Alone : Forest → Type 0 where
  alone_none : Alone none
  alone_more : {a e : ℕ} {d : Decoded} {v : Tree} {ts : Forest} → ((w : Tree) → Under d.bytes w ts → ⊥) → Alone ts → Alone (more (leaf KEY a e d) (more v ts))

pub pairs_alone : {k n : ℕ} {ts : Forest} → Pairs k n ts → ((p : ℕ) → Repeated p ts → ⊥) → Alone ts
pairs_alone pairs_none f = alone_none
pairs_alone (pairs_more y z zs) f =
    alone_more (λ w u. let h = under_has u in f h.start (again (has_later h.has))) (pairs_alone zs (λ p h. f p (beside (beside h))))

-- a key taken out: all others are left
pub record Without (k n : ℕ) (s : List ℕ) (ts : Forest) : Type 0 where
  pub fewer : ℕ
  pub one_less : n ≡ suc fewer
  pub rest : Forest
  pub pairs : Pairs k fewer rest
  pub alone : Alone rest
  pub gone : (w : Tree) → Under s w rest → ⊥
  pub other : (q : List ℕ) (w : Tree) → Under q w ts → (q ≡ s) ⊎ Under q w rest
  pub back : (q : List ℕ) (w : Tree) → Under q w rest → Under q w ts

module _ {k n a e : ℕ} {s : List ℕ} {d : Decoded} {v : Tree} {ts : Forest} (y : Rattle.shaped.specs.Shaped.Scripted d.bytes) (z : Shaped k v) (zs : Pairs k n ts)
    (f : (w : Tree) → Under d.bytes w ts → ⊥) (o : Alone ts) where
  -- the first key
  take_first : d.bytes ≡ s → Without k (suc n) s (more (leaf KEY a e d) (more v ts))
  take_first g =
      record {
        fewer = n;
        one_less = refl;
        rest = ts;
        pairs = zs;
        alone = o;
        gone = λ w u. f w (subst (λ (q : List ℕ). Under q w ts) (sym g) u);
        other = λ q w u. by q w (first_pair z u);
        back = λ q w u. under_later (under_later u);
      }
    where
      by : (q : List ℕ) (w : Tree) → First q w d v ts → (q ≡ s) ⊎ Under q w ts
      by q w (it i j) = inl (sym i ∙ g)
      by q w (behind u) = inr u

  -- or a later one
  take_later : {w₀ : Tree} → Under s w₀ ts → Without k n s ts → Without k (suc n) s (more (leaf KEY a e d) (more v ts))
  take_later {w₀} u₀ x =
      record {
        fewer = suc x.fewer;
        one_less = ap suc x.one_less;
        rest = more (leaf KEY a e d) (more v x.rest);
        pairs = pairs_more y z x.pairs;
        alone = alone_more (λ w u. f w (x.back d.bytes w u)) x.alone;
        gone = λ w u. gone w (first_pair z u);
        other = λ q w u. other q w (first_pair z u);
        back = λ q w u. back q w (first_pair z u);
      }
    where
      gone : (w : Tree) → First s w d v x.rest → ⊥
      gone w (it i j) = f w₀ (subst (λ (q : List ℕ). Under q w₀ ts) (sym i) u₀)
      gone w (behind u) = x.gone w u

      here : (q : List ℕ) (w : Tree) (us : Forest) → d.bytes ≡ q → v ≡ w → Under q w (more (leaf KEY a e d) (more v us))
      here q w us i j = subst (λ (t : Tree). Under q t (more (leaf KEY a e d) (more v us))) j (subst (λ (b : List ℕ). Under b v (more (leaf KEY a e d) (more v us))) i under_here)

      keep : (q : List ℕ) (w : Tree) → (q ≡ s) ⊎ Under q w x.rest → (q ≡ s) ⊎ Under q w (more (leaf KEY a e d) (more v x.rest))
      keep q w (inl g) = inl g
      keep q w (inr u) = inr (under_later (under_later u))

      other : (q : List ℕ) (w : Tree) → First q w d v ts → (q ≡ s) ⊎ Under q w (more (leaf KEY a e d) (more v x.rest))
      other q w (it i j) = inr (here q w x.rest i j)
      other q w (behind u) = keep q w (x.other q w u)

      back : (q : List ℕ) (w : Tree) → First q w d v x.rest → Under q w (more (leaf KEY a e d) (more v ts))
      back q w (it i j) = here q w ts i j
      back q w (behind u) = under_later (under_later (x.back q w u))

  take_either : {w : Tree} → First s w d v ts → (Under s w ts → Without k n s ts) → Without k (suc n) s (more (leaf KEY a e d) (more v ts))
  take_either (it i j) x = take_first i
  take_either (behind u) x = take_later u (x u)

pub taken : {k n : ℕ} {s : List ℕ} {w : Tree} {ts : Forest} → Pairs k n ts → Alone ts → Under s w ts → Without k n s ts
taken pairs_none o u = elim u [ ]
taken (pairs_more y z zs) (alone_more f o) u = take_either y z zs f o (first_pair z u) (λ x. taken zs o x)

-- ---- the three keys of a sheet

lengths : {s t : List ℕ} → s ≡ t → length s ≡ length t
lengths e = ap length e

version_floor : FLOOR ≡ VERSION → ⊥
version_floor e = omega (arith, lengths e)

version_image : IMAGE ≡ VERSION → ⊥
version_image e = omega (arith, lengths e)

floor_image : IMAGE ≡ FLOOR → ⊥
floor_image e = omega (arith, ap (λ (s : List ℕ). get_or s 0 0) e)

not_it : {A B : Type 0} → (A → ⊥) → A ⊎ B → B
not_it f (inl a) = absurd (f a)
not_it f (inr b) = b

-- all three taken out
record Thrice (k n : ℕ) (ts : Forest) : Type 0 where
  fewer : ℕ
  count : n ≡ 3 + fewer
  rest : Forest
  pairs : Pairs k fewer rest
  other : (q : List ℕ) (w : Tree) → Under q w ts → Named q ⊎ Under q w rest
  back : (q : List ℕ) (w : Tree) → Under q w rest → Under q w ts
  gone : (q : List ℕ) (w : Tree) → Named q → Under q w rest → ⊥

module _ {k n : ℕ} {ts : Forest} {t u i : Tree} (zs : Pairs k n ts) (o : Alone ts) (v : Under VERSION t ts) (f : Under FLOOR u ts) (m : Under IMAGE i ts) where
  thrice : Thrice k n ts
  thrice =
      let a = taken zs o v in
      let b = taken a.pairs a.alone (not_it version_floor (a.other FLOOR u f)) in
      let c = taken b.pairs b.alone (not_it floor_image (b.other IMAGE i (not_it version_image (a.other IMAGE i m)))) in
      record {
        fewer = c.fewer;
        count = omega (arith, a.one_less, b.one_less, c.one_less);
        rest = c.rest;
        pairs = c.pairs;
        other = λ q w x. first a b c q w (a.other q w x);
        back = λ q w x. a.back q w (b.back q w (c.back q w x));
        gone = λ q w x. gone a b c w x;
      }
    where
      third : (a : Without k n VERSION ts) (b : Without k a.fewer FLOOR a.rest) (c : Without k b.fewer IMAGE b.rest) (q : List ℕ) (w : Tree)
          → (q ≡ IMAGE) ⊎ Under q w c.rest → Named q ⊎ Under q w c.rest
      third a b c q w (inl e) = inl (subst Named (sym e) named_image)
      third a b c q w (inr x) = inr x

      second : (a : Without k n VERSION ts) (b : Without k a.fewer FLOOR a.rest) (c : Without k b.fewer IMAGE b.rest) (q : List ℕ) (w : Tree)
          → (q ≡ FLOOR) ⊎ Under q w b.rest → Named q ⊎ Under q w c.rest
      second a b c q w (inl e) = inl (subst Named (sym e) named_floor)
      second a b c q w (inr x) = third a b c q w (c.other q w x)

      first : (a : Without k n VERSION ts) (b : Without k a.fewer FLOOR a.rest) (c : Without k b.fewer IMAGE b.rest) (q : List ℕ) (w : Tree)
          → (q ≡ VERSION) ⊎ Under q w a.rest → Named q ⊎ Under q w c.rest
      first a b c q w (inl e) = inl (subst Named (sym e) named_version)
      first a b c q w (inr x) = second a b c q w (b.other q w x)

      gone : (a : Without k n VERSION ts) (b : Without k a.fewer FLOOR a.rest) (c : Without k b.fewer IMAGE b.rest) {q : List ℕ} (w : Tree)
          → Named q → Under q w c.rest → ⊥
      gone a b c w named_version x = a.gone w (b.back VERSION w (c.back VERSION w x))
      gone a b c w named_floor x = b.gone w (c.back FLOOR w x)
      gone a b c w named_image x = c.gone w x

  empty : {k m : ℕ} {us : Forest} {q : List ℕ} {w : Tree} → Pairs k m us → m ≡ 0 → Under q w us → ⊥
  empty pairs_none e x = elim x [ ]
  empty (pairs_more y z zs) e x = omega arith

  -- three pairs: no other key
  pub three_named : n ≡ 3 → (q : List ℕ) (w : Tree) → Under q w ts → Named q
  three_named e q w x = by (thrice.other q w x)
    where
      by : Named q ⊎ Under q w thrice.rest → Named q
      by (inl h) = h
      by (inr h) = absurd (empty thrice.pairs (omega (arith, thrice.count)) h)

  -- no other key: three pairs
  pub named_three : ((q : List ℕ) (w : Tree) → Under q w ts → Named q) → n ≡ 3
  named_three only = by thrice.pairs (λ q w x. thrice.gone q w (only q w (thrice.back q w x)) x) thrice.count
    where
      by : {m : ℕ} {us : Forest} → Pairs k m us → ((q : List ℕ) (w : Tree) → Under q w us → ⊥) → n ≡ 3 + m → n ≡ 3
      by pairs_none g e = omega arith
      by (pairs_more {s = d} {v = v} y z zs) g e = absurd (g d.bytes v under_here)
