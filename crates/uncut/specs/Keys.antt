-- THE KEYS OF AN OBJECT in stored bytes, one behind another by their places (`placed_keys`): no two have one text exactly if the object's keys are distinct (`ApartTold`). Assumes nothing.
use Rattle.std.specs.Prelude.{◌≡◌, List, [], ◌∷◌, ◌++◌, Bool, true, false, ℕ, ◌+◌, ◌≤◌, length}
use Rattle.std.proofs.Math.Path.{refl}
use Rattle.std.proofs.Common.{sym, subst, ◌∙◌, arith}
use Rattle.std.proofs.Math.ListN.{length-append}
use Rattle.exact.specs.Tells.{Tells}
use Rattle.language.specs.Kind.{KEY}
use Rattle.language.specs.Tree.{Decoded, Tree, leaf, Forest, none, more, Has, has_here, has_later}
use Rattle.shaped.specs.Shaped.{Shaped, Pairs, pairs_none, pairs_more}
use Rattle.stored.specs.Old.{content, forms, form}
use Rattle.stored.specs.Bytes.{At, at_left, at_right}
use Rattle.uncut.specs.Short.{longest}
use Rattle.distinct.specs.Roads.{Road, Walks, walks_end, walks_on, Among, among_here, among_later, Apart, apart_none, apart_more}
use Rattle.distinct.specs.Roads as roads
use Rattle.distinct.specs.Windows.{Open}
use Rattle.sound.specs.Distinct.{Again, again_here, again_later, Distinct}
use Rattle.sound.specs.Members.{no_scalar_key}
use Rattle.uncut.specs.Heads.{end_at, content_at, end_after, at_place, field_end, field_slice}

-- the place of the key behind the one at p and its value
abbrev pub beyond : List ℕ → ℕ → ℕ
beyond stored p = end_at stored (end_at stored p)

-- ---- keys of a forest of pairs along a road

module _ (D : Road) where
  -- a key of the forest has a text exactly if one along the road has; no two keys have one text exactly if no two along the road have
  pub record Along (r : ℕ) (ts : Forest) : Type 0 where
    pub rows : List ℕ
    pub walks : Walks D r rows
    pub there : (s : List ℕ) (a : ℕ) → Has s a ts → Among D.text s rows
    pub back : (s : List ℕ) → Among D.text s rows → (a : ℕ) × Has s a ts
    pub apart : Distinct ts → Apart D.text rows
    pub distinct : Apart D.text rows → Distinct ts

  pub along_none : (r : ℕ) → r ≡ D.stop → Along r none
  along_none r e =
      record {
        rows = [];
        walks = subst (λ (i : ℕ). Walks D i []) (sym e) walks_end;
        there = λ s a x. elim x [ ];
        back = λ s x. elim x [ ];
        apart = λ d. apart_none;
        distinct = λ x p y. elim y [ ];
      }

  -- a value is no key
  past_value : {k : ℕ} {s : List ℕ} {a : ℕ} (v : Tree) (ts : Forest) → Shaped k v → Has s a (more v ts) → Has s a ts
  past_value v ts z has_here = absurd (no_scalar_key z)
  past_value v ts z (has_later y) = y

  no_value : {k i : ℕ} (v : Tree) (ts : Forest) → Shaped k v → Again i (more v ts) → Again i ts
  no_value v ts z (again_here y) = absurd (no_scalar_key z)
  no_value v ts z (again_later y) = y

  pub along_more : {k : ℕ} (r a e : ℕ) (d : Decoded) (v : Tree) (ts : Forest) → Shaped k v → D.Good r → d.bytes ≡ D.text r → Along (D.next r) ts → Along r (more (leaf KEY a e d) (more v ts))
  along_more r a e d v ts s g t w =
      record {
        rows = r ∷ w.rows;
        walks = walks_on g w.walks;
        there = λ u b y. there u b y;
        back = λ u y. back u y;
        apart = λ f. apart_more (λ y. let z = w.back (D.text r) y in f z.0 (again_here (has_later (rw t z.1)))) (w.apart (λ i y. f i (again_later (again_later y))));
        distinct = λ y i z. distinct y i z;
      }
    where
      there : (u : List ℕ) (b : ℕ) → Has u b (more (leaf KEY a e d) (more v ts)) → Among D.text u (r ∷ w.rows)
      there u b has_here = among_here t
      there u b (has_later y) = among_later (w.there u b (past_value v ts s y))

      back : (u : List ℕ) → Among D.text u (r ∷ w.rows) → (b : ℕ) × Has u b (more (leaf KEY a e d) (more v ts))
      back u (among_here y) = (a, rw (y ∙ sym t) has_here)
      back u (among_later y) = let c = w.back u y in (c.0, has_later (has_later c.1))

      distinct : Apart D.text (r ∷ w.rows) → (i : ℕ) → Again i (more (leaf KEY a e d) (more v ts)) → ⊥
      distinct (apart_more f z) i (again_here y) = f (rw t at (w.there d.bytes i (past_value v ts s y)))
      distinct (apart_more f z) i (again_later y) = w.distinct z i (no_value v ts s y)

module _ (stored : List ℕ) where
  -- the pairs of an object stand from `from` up to `stop`
  pub record Keys (from stop : ℕ) : Type 0 where
    pub allow : ℕ
    pub count : ℕ
    pub trees : Forest
    pub pairs : Pairs allow count trees
    pub here : At stored from (forms trees)
    pub total : from + length (forms trees) ≡ stop
    pub inside : stop ≤ length stored
    pub few : stop ≤ longest

  -- .. n of them
  pub record Counted (from stop n : ℕ) : Type 0 where
    pub keys : Keys from stop
    pub are : keys.count ≡ n

  -- WHAT IS TOLD of the keys: whether no two have one text
  abbrev pub ApartTold : ℕ → ℕ → Bool → Type 0
  ApartTold from stop b = (h : Keys from stop) → Tells (Distinct h.trees) b

  -- a key's field, with a field behind it
  pub record Keyed (p : ℕ) : Type 0 where
    pub inside : beyond stored p ≤ length stored
    pub few : beyond stored p ≤ longest

  -- .. before `stop`
  pub record Placed (stop p : ℕ) : Type 0 where
    pub keyed : Keyed p
    pub below : beyond stored p ≤ stop

  -- the keys of an object whose content ends at `stop`, by their places
  abbrev pub placed_keys : ℕ → Road
  placed_keys stop =
      record {
        stop = stop;
        next = beyond stored;
        text = content_at stored;
        Good = Placed stop;
        onward = λ p k. omega (arith, end_after stored p, end_after stored (end_at stored p));
        below = λ p k. k.below;
      }

  module _ (p stop k n a e : ℕ) (d : Decoded) (v : Tree) (ts : Forest) (h : At stored p (forms (more (leaf KEY a e d) (more v ts)))) (t : p + length (forms (more (leaf KEY a e d) (more v ts))) ≡ stop)
      (i : stop ≤ length stored) (f : stop ≤ longest) where
    key_at : At stored p (form (leaf KEY a e d))
    unfolding content
    key_at = at_left stored (form (leaf KEY a e d)) (form v ++ forms ts) h

    key_end : end_at stored p ≡ p + length (form (leaf KEY a e d))
    key_end = field_end (leaf KEY a e d) key_at

    behind_at : At stored (end_at stored p) (form v ++ forms ts)
    unfolding content
    behind_at = at_place (sym key_end) (at_right stored (form (leaf KEY a e d)) (form v ++ forms ts) refl h)

    value_end : beyond stored p ≡ end_at stored p + length (form v)
    value_end = field_end v (at_left stored (form v) (forms ts) behind_at)

    rest_at : At stored (beyond stored p) (forms ts)
    rest_at = at_place (sym value_end) (at_right stored (form v) (forms ts) refl behind_at)

    rest_total : beyond stored p + length (forms ts) ≡ stop
    unfolding content
    rest_total = omega (arith, key_end, value_end, length-append (form (leaf KEY a e d)) (form v ++ forms ts), length-append (form v) (forms ts))

    key_text : content_at stored p ≡ d.bytes
    unfolding content
    key_text = field_slice (leaf KEY a e d) key_at (omega (arith, value_end, rest_total))

    placed : Placed stop p
    placed = record { keyed = record { inside = omega (arith, rest_total); few = omega (arith, rest_total) }; below = omega (arith, rest_total) }

  pairs_along : {k n : ℕ} {ts : Forest} (p stop : ℕ) → Pairs k n ts → At stored p (forms ts) → p + length (forms ts) ≡ stop → stop ≤ length stored → stop ≤ longest → Along (placed_keys stop) p ts
  unfolding content
  pairs_along p stop pairs_none h t i f = along_none (placed_keys stop) p (omega arith)
  pairs_along p stop (pairs_more {k = k} {a = a} {e = e} {n = n} {s = d} {v = v} {ts = ts} x y z) h t i f =
      along_more (placed_keys stop) p a e d v ts y (placed p stop k n a e d v ts h t i f) (sym (key_text p stop k n a e d v ts h t i f))
      (pairs_along (beyond stored p) stop z (rest_at p stop k n a e d v ts h t i f) (rest_total p stop k n a e d v ts h t i f) i f)

  keys_along : {from stop : ℕ} (h : Keys from stop) → Along (placed_keys stop) from h.trees
  keys_along {from} {stop} h = pairs_along from stop h.pairs h.here h.total h.inside h.few

  -- ---- as `search` takes them

  pub keys_open : (from stop n : ℕ) → Counted from stop n → Open (placed_keys stop) from
  keys_open from stop n c = let w = keys_along c.keys in record { rows = w.rows; walks = w.walks }

  pub keys_apart : (from stop : ℕ) (b : Bool) → roads.ApartTold (placed_keys stop) from b → ApartTold from stop b
  keys_apart from stop true t h = let w = keys_along h in w.distinct (t w.rows w.walks)
  keys_apart from stop false t h = λ x. let w = keys_along h in t w.rows w.walks (w.apart x)
