-- KEYS THAT ARE CUT AND SHORT, COPIED into a room one behind another: what is copied behind the others changes none of them (`copied_text`), so that a window of them is filled (`Copying`). Assumes nothing.
use Rattle.std.specs.Prelude.{◌≡◌, refl, List, [], ◌∷◌, ℕ, suc, ◌+◌, ◌-◌, ◌≤◌, ◌<◌, length, get_or, take, drop, set}
use Rattle.std.proofs.Common.{sym, ap, subst, ◌∙◌, arith, length-take-le, get_or-set_same, get_or-set_other, Fits, rules}
use Rattle.std.proofs.Math.Decide.{ℕ_discrete}
use Rattle.std.proofs.lemmas.List.Edits.{sets}
use Rattle.std.proofs.Math.Seq.{length-sets}
use Rattle.std.proofs.lemmas.List.{take-set-le}
use Rattle.std.specs.Int.{w32, w64}
use Rattle.language.specs.Lent.{lent}
use Rattle.fields.specs.Spread.{slice_sets}
use Rattle.distinct.specs.Names.{spelt}
use Rattle.distinct.specs.Roads.{Road}
use Rattle.distinct.specs.Window.{Firsts, firsts_none, firsts_more, Leads}
use Rattle.distinct.specs.Windows.{Open, open_good, open_next, open_less, Room, Gathering, gather_first, gather_more, gather_room, gather_even}
use Rattle.views.specs.Views.{viewed, Content, Deeper}
use Rattle.std.specs.Prelude.{Option}
use Rattle.cutkeys.specs.declared.copies.Short.{Short}
use Rattle.cutkeys.specs.declared.keys.Size.{Size}
use Rattle.cutkeys.specs.Places.{end_of}
use Rattle.cutkeys.specs.Kept.{first_of, kept_open}
use Rattle.cutkeys.specs.Keys.{Keyed, all_keys}
use Rattle.cutkeys.specs.Runs.{Run, run_none}
use Rattle.cutkeys.specs.Found.{Sized}
use Rattle.cutkeys.specs.CutsSame.{own_content, own_text, own_deep, own_few}
use Rattle.cutkeys.specs.Shorts.{short_at, short_keys, SeenShort, short_in, SeeksShort}

-- ---- what is copied behind the others

take_sets : (n : ℕ) (l : List ℕ) (i : ℕ) (vs : List ℕ) → n ≤ i → take n (sets l i vs) ≡ take n l
take_sets n l i [] h = refl
take_sets n l i (v ∷ vs) h = take_sets n (set l i v) (suc i) vs (omega arith) ∙ take-set-le n l i v h

module _ (D : Road) (text text' froms tos : List ℕ) where
  firsts_text : {rs us : List ℕ} {n : ℕ} → ((k : ℕ) → k < n → spelt text froms tos k ≡ spelt text' froms tos k) → Firsts D text froms tos rs n us → Firsts D text' froms tos rs n us
  firsts_text g firsts_none = firsts_none
  firsts_text g (firsts_more {n = n} e f) = firsts_more (e ∙ g n (omega arith)) (firsts_text (λ k l. g k (omega arith)) f)

  gather_text : {from n r : ℕ} → length text' ≡ length text → ((k : ℕ) → k < n → spelt text froms tos k ≡ spelt text' froms tos k) → Gathering D text froms tos from n r → Gathering D text' froms tos from n r
  gather_text e g x =
      let h = x.leads.held in
      record {
        leads = record {
          held = record { from_room = h.from_room; to_room = h.to_room; few = h.few; part = λ k l. let p = h.part k l in record { order = p.order; fits = omega (arith, p.fits) } };
          to = x.leads.to;
          walks = x.leads.walks;
          firsts = λ rs w. firsts_text g (x.leads.firsts rs w);
        };
        keys = x.keys;
        room = x.room;
        onward = x.onward;
        start = x.start;
      }

-- n texts stand before x in the room
pub record Before (room tos : List ℕ) (n x : ℕ) : Type 0 where
  pub fits : x ≤ length room
  pub few : length room ≤ lent
  pub ends : (k : ℕ) → k < n → get_or tos k 0 ≤ x

module _ (room froms tos : List ℕ) (n x : ℕ) (b : Before room tos n x) (t : List ℕ) where
  copied_text : (k : ℕ) → k < n → spelt room froms tos k ≡ spelt (sets room x t) froms tos k
  copied_text k l = ap (drop (get_or froms k 0)) (sym (take_sets (get_or tos k 0) room x t (b.ends k l)))

  copied_before : n < length tos → x + length t ≤ length room → Before (sets room x t) (set tos n (x + length t)) (n + 1) (x + length t)
  copied_before o l = record { fits = omega (arith, length-sets room x t); few = omega (arith, length-sets room x t, b.few); ends = λ k m. by k m (ℕ_discrete k n) }
    where
      by : (k : ℕ) → k < n + 1 → Dec (k ≡ n) → get_or (set tos n (x + length t)) k 0 ≤ x + length t
      by k m (yes e) = omega (arith, ap (λ j. get_or (set tos n (x + length t)) j 0) e, get_or-set_same tos n (x + length t) 0 o)
      by k m (no e) = omega (arith, get_or-set_other tos n k (x + length t) 0 e, b.ends k (omega arith))

-- ---- a window of them is filled

pub record Copying (stored starts : List ℕ) (d stop : ℕ) (room froms tos : List ℕ) (n x r : ℕ) : Type 0 where
  pub gathering : Gathering (short_keys stored starts d stop) room froms tos (first_of (all_keys stored starts d stop) (short_at stored starts d) 0) n r
  pub before : Before room tos n x

module _ (stored starts : List ℕ) (d stop : ℕ) where
  abbrev D : Road
  D = all_keys stored starts d stop

  abbrev E : Road
  E = short_keys stored starts d stop

  abbrev first : ℕ
  first = first_of (all_keys stored starts d stop) (short_at stored starts d) 0

  pub copying_first : (room froms tos : List ℕ) → Open D 0 → Room froms tos → length room ≤ lent → (k : Option Short) → SeeksShort stored starts d stop 0 k → Copying stored starts d stop room froms tos 0 0 (short_in stop k)
  copying_first room froms tos o r f k s =
      record {
        gathering = subst (Gathering E room froms tos first 0) (sym s.is) (gather_first E room first froms tos (kept_open D (short_at stored starts d) 0 o) r);
        before = record { fits = omega arith; few = f; ends = λ k l. absurd (omega arith) };
      }

  module _ (room froms tos : List ℕ) (n x r : ℕ) (c : Copying stored starts d stop room froms tos n x r) where
    pub copying_leads : Leads E room froms tos first n r
    copying_leads = c.gathering.leads

    pub copying_below : x ≤ length room
    copying_below = c.before.fits

    pub copying_room : (n ≡ length froms → ⊥) → n < length froms
    copying_room f = gather_room E room first froms tos n r c.gathering f

    pub copying_even : (n ≡ length froms → ⊥) → n < length tos
    copying_even f = gather_even E room first froms tos n r c.gathering f

    pub copying_few : Fits w32 x
    copying_few = omega (arith, c.before.fits, c.before.few)

    pub copying_small : n ≤ 8192
    copying_small = c.gathering.leads.held.few

  module _ (room froms tos : List ℕ) (n x : ℕ) (k : Short) (c : Copying stored starts d stop room froms tos n x k.place) (s : SeenShort stored starts d stop k) where
    keyed : Keyed stored starts d stop k.place
    keyed = open_good D k.place s.keys s.low

    pub copying_deep : d < 34
    copying_deep = own_deep stored starts d stop k.place keyed

    pub copying_inner : Fits w64 (d + 1)
    copying_inner = let z = copying_deep in omega arith

    pub copying_place : k.place ≤ lent
    copying_place = own_few stored starts d stop k.place keyed

    pub copying_run : Run stored starts d k.next stop k.reach.place k.reach.left
    copying_run = s.run

    pub copying_open : Open D k.next
    copying_open = open_next D k.place s.keys s.low k.next s.next

    module _ (q : Option Short) (z : SeeksShort stored starts d stop k.next q) where
      next_is : (short_in stop q) ≡ E.next k.place
      next_is = z.is ∙ ap (first_of D (short_at stored starts d)) s.next

      pub copying_less : stop - (short_in stop q) < stop - k.place
      copying_less = open_less E k.place c.gathering.keys s.low (short_in stop q) next_is

    -- there is room for the text, which is the content of the view a
    module _ (a : List ℕ) (h : Deeper starts d k.place a) (m : k.bytes ≤ length room - x) where
      abbrev v : List ℕ
      v = viewed stored starts d

      abbrev t : List ℕ
      t = take k.bytes (viewed stored a (d + 1))

      abbrev size : Size
      size = record { bytes = k.bytes; end = end_of v k.place }

      sized : Sized v k.place size
      sized = record { bytes = s.bytes; end = refl }

      pub copying_content : Content stored a (d + 1) k.bytes
      copying_content = own_content stored starts d stop k.place keyed size sized a h

      long : length t ≡ k.bytes
      long = length-take-le k.bytes (viewed stored a (d + 1)) copying_content.fits

      pub copying_copied : x + k.bytes ≤ length room
      copying_copied = omega (arith, c.before.fits)

      pub copying_sum : Fits w32 (x + k.bytes)
      copying_sum = let r = copying_copied in omega (arith, c.before.few)

      module _ (f : n ≡ length froms → ⊥) (q : Option Short) (z : SeeksShort stored starts d stop k.next q) where
        kept : Gathering E (sets room x t) froms tos first n k.place
        kept = gather_text E room (sets room x t) froms tos (length-sets room x t) (copied_text room froms tos n x c.before t) c.gathering

        more : Copying stored starts d stop (sets room x t) (set froms n x) (set tos n (x + length t)) (n + 1) (x + length t) (short_in stop q)
        more =
            let r = copying_copied in
            record {
              gathering =
                  gather_more E (sets room x t) first froms tos n k.place kept f s.low x (x + length t)
                  (record { order = omega arith; fits = omega (arith, length-sets room x t, long) })
                  (sym (own_text stored starts d stop k.place keyed size sized a h) ∙ sym (slice_sets room x t (omega (arith, long)))) (short_in stop q) (next_is q z);
              before = copied_before room froms tos n x c.before t (copying_even room froms tos n x k.place c f) (omega (arith, long));
            }

        pub copying_more : (room' : List ℕ) → room' ≡ sets room x t → Copying stored starts d stop room' (set froms n x) (set tos n (x + k.bytes)) (n + 1) (x + k.bytes) (short_in stop q)
        copying_more room' e =
            subst (λ (j : ℕ). Copying stored starts d stop room' (set froms n x) (set tos n (x + j)) (n + 1) (x + j) (short_in stop q)) long
            (subst (λ (w : List ℕ). Copying stored starts d stop w (set froms n x) (set tos n (x + length t)) (n + 1) (x + length t) (short_in stop q)) (sym e) more)

pub ruleset copying = (run_none, copying_first, copying_leads, copying_below, copying_room, copying_even, copying_few, copying_small, copying_deep, copying_inner, copying_place, copying_run, copying_open, copying_less, copying_content, copying_copied, copying_sum, copying_more, rules)
