-- A WINDOW OF KEYS of an object, by the places of their texts (`Gathered`): each has a text of its own, and marks of theirs are marks of the object's pairs. Assumes nothing.
use Rattle.std.specs.Prelude.{◌≡◌, refl, List, ℕ, ◌+◌, ◌-◌, ◌*◌, ◌≤◌, ◌<◌, ◌++◌, zero, suc, length, get_or, set, take, drop, replicate}
use Rattle.std.proofs.lemmas.List.{length-replicate}
use Rattle.std.proofs.Common.{sym, ap, subst, subst₂, ◌∙◌, arith, length-set, length-append, length-drop, length-take-le, get_or-set_same, get_or-set_other, rules}
use Rattle.std.proofs.Math.Decide.{ℕ_discrete}
use Rattle.language.specs.Tree.{Forest, Field, text_of, width}
use Rattle.distinct.specs.Names.{spelt, Held, Sits, Twice, twice_none, twice_more}
use Rattle.distinct.specs.Window.{held_none, held_more, spelt_set, spelt_last}
use Rattle.sound.specs.Keys.{from_at, to_at}
use Rattle.sound.specs.Standing.{size_some}
use Rattle.overlay.specs.Overlay.{pairs_of, absent, value_of}
use Rattle.overlay.specs.Lists.{no_value, value_here, value_there}
use Rattle.lay.specs.Targets.{ceiling}
use Rattle.lay.specs.Matching.{Stand, Pair, stand_first, Mark, Marks, marks_end, marks_more, Match, row_of}

-- the pairs from row q up to `end`
pub record Pairing (table text : List ℕ) (q end : ℕ) : Type 0 where
  pub deep : ℕ
  pub trees : Forest
  pub stands : Stand table text deep q end trees
  pub few : end < ceiling

abbrev pub match_pairing : {table text : List ℕ} {q end : ℕ} {other words : List ℕ} {s : ℕ} → Match table text q end other words s → Pairing table text q end
match_pairing h = record { deep = h.deep; trees = h.trees; stands = h.stands; few = h.few }

-- rooms for `most` keys and their marks
pub record Space (froms tos marks : List ℕ) (most : ℕ) : Type 0 where
  pub some : 0 < most
  pub few : most ≤ 8192
  pub from_room : most ≤ length froms
  pub to_room : most ≤ length tos
  pub mark_room : most ≤ length marks

-- no key has a mark yet
pub record Zeros (marks : List ℕ) (n : ℕ) : Type 0 where
  pub zero : (k : ℕ) → k < n → get_or marks k 0 ≡ 0

pub zeros_first : (marks : List ℕ) → Zeros marks 0
zeros_first marks = record { zero = λ k l. absurd (omega arith) }

pub zeros_more : (marks : List ℕ) (n : ℕ) → n < length marks → Zeros marks n → Zeros (set marks n 0) (n + 1)
zeros_more marks n m z = record { zero = λ k l. by k l (ℕ_discrete k n) }
  where
    by : (k : ℕ) → k < n + 1 → Dec (k ≡ n) → get_or (set marks n 0) k 0 ≡ 0
    by k l (yes e) = rw e (get_or-set_same marks n 0 0 m)
    by k l (no e) = get_or-set_other marks n k 0 0 e ∙ z.zero k (omega arith)

-- marks that are taken back
zeros_front : (n : ℕ) (rest : List ℕ) (k : ℕ) → k < n → get_or (replicate n 0 ++ rest) k 0 ≡ 0
zeros_front zero rest k l = absurd (omega arith)
zeros_front (suc n) rest zero l = refl
zeros_front (suc n) rest (suc k) l = zeros_front n rest k (omega arith)

module _ (marks ys : List ℕ) (n : ℕ) (l : n ≤ length marks) (e : ys ≡ replicate (length (take n marks)) 0) where
  again : ys ≡ replicate n 0
  again = e ∙ ap (λ (k : ℕ). replicate k 0) (length-take-le n marks l)

  pub zeros_filled : Zeros (ys ++ drop n marks) n
  zeros_filled = record { zero = λ k m. ap (λ (y : List ℕ). get_or (y ++ drop n marks) k 0) again ∙ zeros_front n (drop n marks) k m }

  pub filled_length : length (ys ++ drop n marks) ≡ length marks
  filled_length = omega (arith, length-append ys (drop n marks), length-drop n marks, ap length again, length-replicate {A = ℕ} n 0)

-- THE FIRST n PAIRS, whose keys stand in the rooms
pub record Full (table text : List ℕ) (q end : ℕ) (h : Pairing table text q end) (froms tos : List ℕ) (n : ℕ) : Type 0 where
  pub held : Held text froms tos n
  pub once : Twice text froms tos n → ⊥
  pub marks_of : (other words : List ℕ) (gs : List Field) (marks : List ℕ) → ((k : ℕ) → k < n → Mark other words gs (spelt text froms tos k) (row_of (get_or marks k 0)))
      → Marks other words gs marks n 0 (pairs_of h.trees)

pub record Gathered (table text : List ℕ) (q end : ℕ) (froms tos marks : List ℕ) (most n : ℕ) : Type 0 where
  pub some : q < end → 0 < n
  pub low : n ≤ most
  pub zeros : Zeros marks n
  pub full : (h : Pairing table text q end) → Full table text q end h froms tos n

-- n keys are gathered, and those that are left stand from r on
pub record Coming (table text : List ℕ) (q end : ℕ) (h : Pairing table text q end) (froms tos : List ℕ) (n r : ℕ) : Type 0 where
  pub left : Forest
  pub stands : Stand table text h.deep r end left
  pub held : Held text froms tos n
  pub once : Twice text froms tos n → ⊥
  pub apart : (k : ℕ) → k < n → value_of (spelt text froms tos k) (pairs_of left) ≡ absent
  pub glue : (other words : List ℕ) (gs : List Field) (marks : List ℕ) (m : ℕ) → n ≤ m → ((k : ℕ) → k < n → Mark other words gs (spelt text froms tos k) (row_of (get_or marks k 0)))
      → Marks other words gs marks m n (pairs_of left) → Marks other words gs marks m 0 (pairs_of h.trees)

module _ (table text : List ℕ) (q end : ℕ) (h : Pairing table text q end) where
  pub coming_first : (froms tos : List ℕ) → Coming table text q end h froms tos 0 q
  coming_first froms tos =
      record {
        left = h.trees;
        stands = h.stands;
        held = held_none text froms tos;
        once = twice_none text froms tos;
        apart = λ k l. absurd (omega arith);
        glue = λ other words gs marks m l f x. x;
      }

  module _ (froms tos : List ℕ) (n r : ℕ) (x : Coming table text q end h froms tos n r) where
    pub coming_full : Full table text q end h froms tos n
    coming_full =
        record {
          held = x.held;
          once = x.once;
          marks_of = λ other words gs marks f. x.glue other words gs marks n (omega arith) f marks_end;
        }

    module _ (l : r < end) where
      one : Pair table text h.deep r end x.left
      one = stand_first table text x.stands l

      pub coming_row : (j : ℕ) → j < width → width * r + j < length table
      coming_row j i = omega (arith, one.named.whole)

      pub coming_word : width * (r + 1) + 6 < length table
      coming_word = omega (arith, one.val_here.fits, size_some one.val)

      pub coming_ahead : {i : ℕ} → i ≡ get_or table (width * (r + 1) + 6) 0 → (r < i) × (i ≤ end)
      coming_ahead e = (omega (arith, one.onward), omega (arith, one.within))

      module _ (a e : ℕ) (u : a ≡ from_at table r) (v : e ≡ to_at table r) (m : n < length froms) (o : n < length tos) (f : n < 8192) where
        -- the key's text, where it stands now
        key_text : spelt text (set froms n a) (set tos n e) n ≡ text_of one.key
        key_text = sym (spelt_last text froms tos n a e m o) ∙ (rw (u, v) one.text_is)

        earlier : {k : ℕ} → k < n → spelt text froms tos k ≡ spelt text (set froms n a) (set tos n e) k
        earlier l = spelt_set text froms tos n a e l

        -- no earlier key has it, and none that is left has an earlier one's
        other_text : (k : ℕ) → k < n → spelt text froms tos k ≡ text_of one.key → ⊥
        other_text k i z =
            no_value (value_here (spelt text froms tos k) one.key one.val (pairs_of one.rest) z)
            (subst (λ (fs : List Field). value_of (spelt text froms tos k) fs ≡ absent) one.is (x.apart k i))

        still : (k : ℕ) → k < n → value_of (spelt text froms tos k) (pairs_of one.rest) ≡ absent
        still k i =
            sym (value_there (spelt text froms tos k) one.key one.val (pairs_of one.rest) (other_text k i))
            ∙ subst (λ (fs : List Field). value_of (spelt text froms tos k) fs ≡ absent) one.is (x.apart k i)

        twice_earlier : Twice text (set froms n a) (set tos n e) n → Twice text froms tos n
        twice_earlier t =
            record {
              number = t.number;
              low = t.low;
              earlier =
                  record {
                    other = t.earlier.other;
                    key = record { before = t.earlier.key.before; key = tt };
                    same = earlier t.low ∙ (t.earlier.same ∙ sym (earlier (omega (arith, t.low, t.earlier.key.before))));
                  };
            }

        none_sits : Sits text (set froms n a) (set tos n e) (spelt text (set froms n a) (set tos n e) n) n → ⊥
        none_sits y = other_text y.other y.key.before (earlier y.key.before ∙ (sym y.same ∙ key_text))

        pub coming_more : {i : ℕ} → i ≡ get_or table (width * (r + 1) + 6) 0 → Coming table text q end h (set froms n a) (set tos n e) (n + 1) i
        coming_more {i} y =
            record {
              left = one.rest;
              stands = subst (λ (j : ℕ). Stand table text h.deep j end one.rest) (sym y) one.behind;
              held = held_more text froms tos n a e x.held m o f (rw (u, v) one.named.part);
              once = twice_more text (set froms n a) (set tos n e) (λ t. x.once (twice_earlier t)) none_sits;
              apart = λ k j. gone k j (ℕ_discrete k n);
              glue =
                  λ other words gs marks c p g z.
                  x.glue other words gs marks c (omega arith) (λ k j. subst (λ (s : List ℕ). Mark other words gs s (row_of (get_or marks k 0))) (sym (earlier j)) (g k (omega arith)))
                  (subst
                  (Marks other words gs marks c n)
                  (sym one.is)
                  (marks_more (omega arith) (subst (λ (s : List ℕ). Mark other words gs s (row_of (get_or marks n 0))) key_text (g n (omega arith))) z));
            }
          where
            gone : (k : ℕ) → k < n + 1 → Dec (k ≡ n) → value_of (spelt text (set froms n a) (set tos n e) k) (pairs_of one.rest) ≡ absent
            gone k j (yes z) = rw (z, key_text) one.apart
            gone k j (no z) = rw (sym (earlier {k = k} (omega arith))) (still k (omega arith))

-- the loop: what is gathered, and rooms that stay as long
pub record Gathers (table text : List ℕ) (q end : ℕ) (froms tos marks : List ℕ) (most n r : ℕ) : Type 0 where
  pub coming : (h : Pairing table text q end) → Coming table text q end h froms tos n r
  pub space : Space froms tos marks most
  pub zeros : Zeros marks n
  pub low : n ≤ most
  pub ahead : q ≤ r
  pub some : q < r → 0 < n

module _ (table text : List ℕ) (q end : ℕ) (h : Pairing table text q end) (most : ℕ) where
  pub gather_first : (froms tos marks : List ℕ) → Space froms tos marks most → Gathers table text q end froms tos marks most 0 q
  gather_first froms tos marks s =
      record {
        coming = λ p. coming_first table text q end p froms tos;
        space = s;
        zeros = zeros_first marks;
        low = omega arith;
        ahead = omega arith;
        some = λ l. absurd (omega arith);
      }

  module _ (froms tos marks : List ℕ) (n r : ℕ) (x : Gathers table text q end froms tos marks most n r) where
    pub gather_full : n ≡ most → Gathered table text q end froms tos marks most n
    gather_full e = record { some = λ l. omega (arith, x.space.some); low = x.low; zeros = x.zeros; full = λ p. coming_full table text q end p froms tos n r (x.coming p) }

    pub gather_over : end ≤ r → Gathered table text q end froms tos marks most n
    gather_over l = record { some = λ i. x.some (omega arith); low = x.low; zeros = x.zeros; full = λ p. coming_full table text q end p froms tos n r (x.coming p) }

    pub gather_few : n ≤ 8192
    gather_few = omega (arith, x.low, x.space.few)

    module _ (o : n ≡ most → ⊥) where
      pub gather_from : n < length froms
      gather_from = omega (arith, x.low, x.space.from_room)

      pub gather_to : n < length tos
      gather_to = omega (arith, x.low, x.space.to_room)

      pub gather_mark : n < length marks
      gather_mark = omega (arith, x.low, x.space.mark_room)

      below : n < 8192
      below = omega (arith, x.low, x.space.few)

      module _ (l : r < end) where
        pub gather_small : r + 1 < ceiling
        gather_small = omega (arith, h.few)

        pub gather_row : (j : ℕ) → j < width → width * r + j < length table
        gather_row j i = coming_row table text q end h froms tos n r (x.coming h) l j i

        pub gather_value : (j : ℕ) → j ≡ 6 → width * (r + 1) + j < length table
        gather_value j e = rw e (coming_word table text q end h froms tos n r (x.coming h) l)

        module _ (i : ℕ) (e : i ≡ get_or table (width * (r + 1) + 6) 0) where
          pub gather_less : end - i < end - r
          gather_less = let z = coming_ahead table text q end h froms tos n r (x.coming h) l e in omega (arith, z.0, z.1)

          pub gather_more : (a b : ℕ) → a ≡ from_at table r → b ≡ to_at table r → Gathers table text q end (set froms n a) (set tos n b) (set marks n 0) most (n + 1) i
          gather_more a b u v =
              let z = coming_ahead table text q end h froms tos n r (x.coming h) l e in
              record {
                coming = λ p. coming_more table text q end p froms tos n r (x.coming p) l a b u v gather_from gather_to below e;
                space =
                    record {
                      some = x.space.some;
                      few = x.space.few;
                      from_room = omega (arith, x.space.from_room, length-set froms n a);
                      to_room = omega (arith, x.space.to_room, length-set tos n b);
                      mark_room = omega (arith, x.space.mark_room, length-set marks n 0);
                    };
                zeros = zeros_more marks n gather_mark x.zeros;
                low = omega (arith, x.low);
                ahead = omega (arith, x.ahead, z.0);
                some = λ j. omega arith;
              }

pub ruleset gathers = (gather_first, gather_full, gather_over, gather_few, gather_from, gather_to, gather_mark, gather_small, gather_row, gather_value, gather_less, gather_more, rules)
