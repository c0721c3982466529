-- KEYS THAT ARE CUT AND SHORT (`short_at`), a road of their own (`short_keys`), and the first from a place on as code finds it (`SeeksShort`). Assumes nothing.
use Rattle.std.specs.Prelude.{◌≡◌, List, Bool, true, false, ℕ, ◌-◌, ◌≤◌, ◌<◌, leb}
use Rattle.std.proofs.Math.Path.{refl}
use Rattle.std.proofs.Common.{sym, ap, subst, ◌∙◌, arith, rules, le-leb}
use Rattle.std.proofs.lemmas.Bool.{lt-leb}
use Rattle.exact.specs.Class.{clash}
use Rattle.language.specs.Kind.{pick}
use Rattle.distinct.specs.Roads.{Road, walks_le}
use Rattle.distinct.specs.Windows.{Open, open_good, open_next, open_less}
use Rattle.views.specs.Views.{viewed}
use Rattle.std.specs.Prelude.{Option, Some, None, is_some}
use Rattle.cutkeys.specs.declared.keys.Named.{Named}
use Rattle.cutkeys.specs.declared.keys.Size.{Size}
use Rattle.cutkeys.specs.declared.copies.Short.{Short}
use Rattle.cutkeys.specs.Places.{size_of, beyond}
use Rattle.cutkeys.specs.Kept.{kept_road, first_of, first_over, first_here, first_later}
use Rattle.cutkeys.specs.Keys.{Stands, Keyed, all_keys}
use Rattle.cutkeys.specs.Whole.{Names, whole_at, whole_at_lem}
use Rattle.cutkeys.specs.Runs.{Run}
use Rattle.cutkeys.specs.Found.{Sized, key_field}
use Rattle.cutkeys.specs.Spared.{inside, inside_first, inside_behind, inside_second}

none_some : {A : Type 0} {x : A} → ◌≡◌ {A = Option A} None (Some x) → ⊥
none_some e = clash (ap is_some e) refl

size_or : ℕ → Option ℕ → ℕ
size_or x (Some y) = y
size_or x None = x

same_size : {x y : ℕ} → ◌≡◌ {A = Option ℕ} (Some x) (Some y) → x ≡ y
unfolding size_or
same_size {x} e = ap (size_or x) e

module _ (stored starts : List ℕ) (d : ℕ) where
  abbrev v : List ℕ
  v = viewed stored starts d

  -- the key at p is cut, and its text has at most 1,024 bytes
  unfoldable pub short_at : ℕ → Bool
  short_at p = pick (whole_at stored starts d p) false (leb (size_of (viewed stored starts d) p) 1024)

  abbrev pub short_keys : ℕ → Road
  short_keys stop = kept_road (all_keys stored starts d stop) short_at

  -- .. it stands whole, or it is one of those before `next`
  abbrev pub inside_at : ℕ → ℕ → Bool
  inside_at next = inside (whole_at stored starts d) short_at next

  module _ (p : ℕ) where
    short_whole : whole_at stored starts d p ≡ true → short_at p ≡ false
    unfolding short_at
    short_whole e = rw e refl

    pub short_size : whole_at stored starts d p ≡ false → short_at p ≡ leb (size_of v p) 1024
    unfolding short_at
    short_size e = rw e refl

    pub short_cut : short_at p ≡ true → whole_at stored starts d p ≡ false
    short_cut e = by (whole_at stored starts d p) refl
      where
        by : (b : Bool) → whole_at stored starts d p ≡ b → whole_at stored starts d p ≡ false
        by true z = absurd (clash e (short_whole z))
        by false z = z

    -- as the key at p is told
    pub whole_told : (next : ℕ) (k : Named) → Names starts d p (size_of v p) next k → is_some k.text ≡ whole_at stored starts d p
    whole_told next k h = h.text.whole ∙ sym (whole_at_lem stored starts d p)

  -- ---- the bytes of a key that is cut

  -- their count, if the key is one of those
  pub record Counts (p : ℕ) (o : Option ℕ) : Type 0 where
    pub short : (n : ℕ) → o ≡ Some n → short_at p ≡ true
    pub size : (n : ℕ) → o ≡ Some n → n ≡ size_of (viewed stored starts d) p
    pub long : o ≡ None → short_at p ≡ false

  module _ (stop p : ℕ) (k : Keyed stored starts d stop p) (whole : Bool) (w : whole ≡ whole_at stored starts d p) where
    pub count_field : Stands v stop p
    count_field = key_field stored starts d stop p k

    pub count_whole : whole ≡ true → Counts p None
    count_whole e = record { short = λ n z. absurd (none_some z); size = λ n z. absurd (none_some z); long = λ z. short_whole p (sym w ∙ e) }

    module _ (e : whole ≡ false) (r : Size) (z : Sized v p r) where
      is_size : short_at p ≡ leb r.bytes 1024
      is_size = short_size p (sym w ∙ e) ∙ ap (λ n. leb n 1024) (sym z.bytes)

      pub count_size : r.bytes ≤ 1024 → Counts p (Some r.bytes)
      count_size l = record { short = λ n y. is_size ∙ le-leb r.bytes 1024 l; size = λ n y. sym (same_size y) ∙ z.bytes; long = λ y. absurd (none_some (sym y)) }

      pub count_long : 1024 < r.bytes → Counts p None
      count_long l = record { short = λ n y. absurd (none_some y); size = λ n y. absurd (none_some y); long = λ y. is_size ∙ lt-leb r.bytes 1024 l }

      pub told_window : (next : ℕ) → p < next → leb r.bytes 1024 ≡ inside_at next p
      told_window next l = sym is_size ∙ inside_second (whole_at stored starts d) short_at next p (sym w ∙ e) l

    pub told_whole : (next : ℕ) → whole ≡ true → true ≡ inside_at next p
    told_whole next e = inside_first (whole_at stored starts d) short_at next p (sym w ∙ e)

    pub told_behind : (next : ℕ) → whole ≡ false → next ≤ p → false ≡ inside_at next p
    told_behind next e l = inside_behind (whole_at stored starts d) short_at next p (sym w ∙ e) l

pub ruleset counting = (count_field, count_whole, count_size, count_long, rules)

pub ruleset insides = (count_field, told_whole, told_behind, told_window, rules)

-- ---- the first from a place on

pub record SeenShort (stored starts : List ℕ) (d stop : ℕ) (r : Short) : Type 0 where
  pub keys : Open (all_keys stored starts d stop) r.place
  pub low : r.place < stop
  pub bytes : r.bytes ≡ size_of (viewed stored starts d) r.place
  pub next : r.next ≡ beyond (viewed stored starts d) r.place
  pub run : Run stored starts d r.next stop r.reach.place r.reach.left

pub record SeeingShort (stored starts : List ℕ) (d stop : ℕ) (o : Option Short) : Type 0 where
  pub seen : (r : Short) → o ≡ Some r → SeenShort stored starts d stop r

-- its place, or where the content ends
abbrev pub short_in : ℕ → Option Short → ℕ
short_in stop (Some r) = r.place
short_in stop None = stop

pub record SeeksShort (stored starts : List ℕ) (d stop at : ℕ) (o : Option Short) : Type 0 where
  pub seeing : SeeingShort stored starts d stop o
  pub is : short_in stop o ≡ first_of (all_keys stored starts d stop) (short_at stored starts d) at

short_or : Short → Option Short → Short
short_or x (Some y) = y
short_or x None = x

same_short : {x y : Short} → ◌≡◌ {A = Option Short} (Some x) (Some y) → x ≡ y
unfolding short_or
same_short {x} e = ap (short_or x) e

-- the walk has come to p
pub record SeekingShort (stored starts : List ℕ) (d stop at p : ℕ) : Type 0 where
  pub keys : Open (all_keys stored starts d stop) p
  pub same : first_of (all_keys stored starts d stop) (short_at stored starts d) p ≡ first_of (all_keys stored starts d stop) (short_at stored starts d) at

module _ (stored starts : List ℕ) (d stop at : ℕ) where
  abbrev D : Road
  D = all_keys stored starts d stop

  abbrev f : ℕ → Bool
  f = short_at stored starts d

  at_end : (p : ℕ) → Open D p → stop ≤ p → p ≡ stop
  at_end p k l = let m = walks_le D k.walks in omega arith

  pub short_first : Open D at → SeekingShort stored starts d stop at at
  short_first k = record { keys = k; same = refl }

  module _ (p : ℕ) (s : SeekingShort stored starts d stop at p) where
    pub short_over : stop ≤ p → SeeksShort stored starts d stop at None
    short_over l =
        record {
          seeing = record { seen = λ r e. absurd (none_some e) };
          is = sym (at_end p s.keys l) ∙ (first_over D f p s.keys l ∙ s.same);
        }

    module _ (l : p < stop) where
      pub short_keyed : Keyed stored starts d stop p
      short_keyed = open_good D p s.keys l

      module _ (k : Named) (h : Names starts d p (size_of (viewed stored starts d) p) (beyond (viewed stored starts d) p) k) where
        module _ (o : Option ℕ) (c : Counts stored starts d p o) where
          pub short_found : (n : ℕ) → o ≡ Some n → Run stored starts d k.next stop k.reach.place k.reach.left
              → SeeksShort stored starts d stop at (Some (record { place = p; bytes = n; next = k.next; reach = k.reach }))
          short_found n e u =
              record {
                seeing = record { seen = λ r z. subst (SeenShort stored starts d stop) (same_short z) (record { keys = s.keys; low = l; bytes = c.size n e; next = h.next; run = u }) };
                is = first_here D f p s.keys l (c.short n e) ∙ s.same;
              }

          pub short_on : o ≡ None → SeekingShort stored starts d stop at k.next
          short_on e =
              record {
                keys = open_next D p s.keys l k.next h.next;
                same = ap (first_of D f) h.next ∙ (first_later D f p s.keys l (c.long e) ∙ s.same);
              }

        pub short_less : stop - k.next < stop - p
        short_less = open_less D p s.keys l k.next h.next

pub ruleset shorting = (short_first, short_over, short_keyed, whole_told, short_found, short_on, short_less, rules)
