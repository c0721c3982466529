-- THE KEYS OF AN OBJECT BY THEIR ROWS (`object_keys`): each leads to the next by the row behind its value. No two have one text exactly if the object's keys are distinct. Assumes nothing.
use mathlib.Core.Path.{◌≡◌, refl, sym, ap, subst, ◌∙◌}
use Rattle.std.specs.Prelude.{List, [], ◌∷◌, ℕ, ◌+◌, ◌*◌, ◌≤◌, ◌<◌, get_or}
use Rattle.std.proofs.Common.{arith}
use Rattle.std.proofs.Math.ListN.{length}
use Rattle.std.proofs.Math.Seq.{slice}
use Rattle.language.specs.Kind.{KEY}
use Rattle.language.specs.Tree.{Decoded, Tree, leaf, Forest, none, more, width, size, sizes, Has, has_here, has_later}
use Rattle.shaped.specs.Shaped.{Shaped, Pairs, pairs_none, pairs_more}
use Rattle.shaped.specs.RowsAt.{RowsAt, ForestAt, leaf_row, first_at, rest_at, next_at}
use Rattle.shaped.specs.Leaves.{part_is, part_fits}
use Rattle.distinct.specs.Roads.{Road, Walks, walks_end, walks_on, Among, among_here, among_later, Apart, apart_none, apart_more}
use Rattle.sound.specs.Distinct.{Again, again_here, again_later, Distinct}
use Rattle.sound.specs.Members.{no_scalar_key, some_size}

-- the text that a row names
abbrev pub from_at : List ℕ → ℕ → ℕ
from_at table r = get_or table (width * r + 3) 0

abbrev pub to_at : List ℕ → ℕ → ℕ
to_at table r = get_or table (width * r + 4) 0

abbrev pub text_at : List ℕ → List ℕ → ℕ → List ℕ
text_at table text r = slice (from_at table r) (to_at table r) text

-- the row of the key behind that of row r: the row behind its value
abbrev pub beyond : List ℕ → ℕ → ℕ
beyond table r = get_or table (width * (r + 1) + 6) 0

module _ (table text : List ℕ) where
  -- a key's row: its text is inside the room, and the walk goes on behind its value, up to `stop`, in the table
  pub record Keyed (stop r : ℕ) : Type 0 where
    pub whole : width * stop ≤ length table
    pub few : stop < 4294967296
    pub order : from_at table r ≤ to_at table r
    pub fits : to_at table r ≤ length text
    pub onward : r + 1 < beyond table r
    pub below : beyond table r ≤ stop

  -- the keys of an object, whose rows end at `stop`
  abbrev pub object_keys : ℕ → Road
  object_keys stop = record { stop = stop; next = beyond table; text = text_at table text; Good = Keyed stop; onward = λ r k. omega (arith, k.onward); below = λ r k. k.below }

  -- THE KEYS OF A FOREST OF PAIRS, by their rows
  pub record Rows (stop r : ℕ) (ts : Forest) : Type 0 where
    pub rows : List ℕ
    pub walks : Walks (object_keys stop) r rows
    pub there : (s : List ℕ) (a : ℕ) → Has s a ts → Among (text_at table text) s rows
    pub back : (s : List ℕ) → Among (text_at table text) s rows → (a : ℕ) × Has s a ts
    pub apart : Distinct ts → Apart (text_at table text) rows
    pub distinct : Apart (text_at table text) rows → Distinct ts

  none_rows : (stop r : ℕ) → r ≡ stop → Rows stop r none
  none_rows stop r e =
      record {
        rows = [];
        walks = subst (λ (i : ℕ). Walks (object_keys stop) i []) (sym e) walks_end;
        there = λ s a x. elim x [ ];
        back = λ s x. elim x [ ];
        apart = λ d. apart_none;
        distinct = λ x p y. elim y [ ];
      }

  module _ (stop r p x a e : ℕ) (d : Decoded) (v : Tree) (ts : Forest) (k : ℕ) (s : Shaped k v) (h : ForestAt table text r p x (more (leaf KEY a e d) (more v ts))) (g : r + sizes (more (leaf KEY a e d) (more v ts)) ≡ stop)
      (i : width * stop ≤ length table) (f : stop < 4294967296) where
    key_at : RowsAt table text r p x (leaf KEY a e d)
    key_at = first_at table text h

    value_at_lem : RowsAt table text (r + 1) p (x + length d.bytes) v
    unfolding size Rattle.language.specs.Tree.text_of
    value_at_lem = first_at table text (rest_at table text h)

    key_text : d.bytes ≡ text_at table text r
    key_text = part_is table text key_at ∙ mathlib.Core.Path.ap₂ (λ (i j : ℕ). slice i j text) (sym (leaf_row table text key_at).from_is) (sym (leaf_row table text key_at).to_is)

    beyond_is : beyond table r ≡ r + 1 + size v
    beyond_is = next_at table text v value_at_lem

    total : beyond table r + sizes ts ≡ stop
    unfolding sizes size
    total = omega (arith, beyond_is)

    keyed : Keyed stop r
    keyed =
        let w = leaf_row table text key_at in
        record {
          whole = i;
          few = f;
          order = omega (arith, w.from_is, w.to_is);
          fits = omega (arith, part_fits table text key_at, w.to_is);
          onward = omega (arith, beyond_is, some_size v);
          below = omega (arith, total);
        }

    pub rest_stands : ForestAt table text (beyond table r) p (x + length d.bytes + length (Rattle.language.specs.Tree.text_of v)) ts
    unfolding size Rattle.language.specs.Tree.text_of
    rest_stands = subst (λ (i : ℕ). ForestAt table text i p (x + length d.bytes + length (Rattle.language.specs.Tree.text_of v)) ts) (sym beyond_is) (rest_at table text (rest_at table text h))

    -- a value is no key
    past_value : (u : List ℕ) (b : ℕ) → Has u b (more v ts) → Has u b ts
    past_value u b y = by v s y
      where
        by : (v : Tree) → Shaped k v → Has u b (more v ts) → Has u b ts
        by v z has_here = absurd (no_scalar_key z)
        by v z (has_later y) = y

    more_rows : Rows stop (beyond table r) ts → Rows stop r (more (leaf KEY a e d) (more v ts))
    more_rows w =
        record {
          rows = r ∷ w.rows;
          walks = walks_on keyed w.walks;
          there = λ u b y. there u b y;
          back = λ u y. back u y;
          apart = λ f. apart_more (λ y. let z = w.back (text_at table text r) y in f z.0 (again_here (has_later (rw key_text z.1)))) (w.apart (λ i y. f i (again_later (again_later y))));
          distinct = λ y i z. distinct y i z;
        }
      where
        there : (u : List ℕ) (b : ℕ) → Has u b (more (leaf KEY a e d) (more v ts)) → Among (text_at table text) u (r ∷ w.rows)
        there u b has_here = among_here key_text
        there u b (has_later y) = among_later (w.there u b (past_value u b y))

        back : (u : List ℕ) → Among (text_at table text) u (r ∷ w.rows) → (b : ℕ) × Has u b (more (leaf KEY a e d) (more v ts))
        back u (among_here y) = (a, rw (y ∙ sym key_text) has_here)
        back u (among_later y) = let c = w.back u y in (c.0, has_later (has_later c.1))

        no_value : (i : ℕ) (v : Tree) → Shaped k v → Again i (more v ts) → Again i ts
        no_value i v z (again_here y) = absurd (no_scalar_key z)
        no_value i v z (again_later y) = y

        distinct : Apart (text_at table text) (r ∷ w.rows) → (i : ℕ) → Again i (more (leaf KEY a e d) (more v ts)) → ⊥
        distinct (apart_more f z) i (again_here y) = f (rw key_text at (w.there d.bytes i (past_value d.bytes i y)))
        distinct (apart_more f z) i (again_later y) = w.distinct z i (no_value i v s y)

  pub pairs_rows : {k n : ℕ} {ts : Forest} (stop r p x : ℕ) → Pairs k n ts → ForestAt table text r p x ts → r + sizes ts ≡ stop → width * stop ≤ length table → stop < 4294967296 → Rows stop r ts
  unfolding sizes
  pairs_rows stop r p x pairs_none h e i f = none_rows stop r (omega arith)
  pairs_rows stop r p x (pairs_more {k = k} {a = a} {e = e} {s = d} {v = v} {ts = ts} y z zs) h g i f =
      more_rows stop r p x a e d v ts k z h g i f
      (pairs_rows stop (beyond table r) p (x + length d.bytes + length (Rattle.language.specs.Tree.text_of v)) zs (rest_stands stop r p x a e d v ts k z h g i f) (total stop r p x a e d v ts k z h g i f) i f)
