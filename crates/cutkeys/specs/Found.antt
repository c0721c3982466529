-- KEYS AS CODE FINDS THEM: a field by its extent (`Sized`), the key at a place (`Names`), and the first from a place on that stands whole (`Seeks`). Assumes nothing.
use Rattle.std.specs.Prelude.{◌≡◌, refl, List, Bool, ℕ, ◌+◌, ◌-◌, ◌≤◌, ◌<◌, length, take, drop}
use Rattle.std.proofs.Common.{sym, ap, subst, ◌∙◌, arith, rules}
use Rattle.std.proofs.Math.Seq.{slice}
use Rattle.language.specs.Lent.{lent}
use Rattle.distinct.specs.Names.{Part}
use Rattle.distinct.specs.Roads.{Road, walks_le}
use Rattle.distinct.specs.Windows.{Open, open_good, open_next, open_less}
use Rattle.views.specs.declared.parts.Span.{Span}
use Rattle.views.specs.Views.{viewed, view_less}
use Rattle.views.specs.Extents.{Whole, Told}
use Rattle.views.specs.Spans.{Lies}
use Rattle.std.specs.Prelude.{Option, Some, None, is_some}
use Rattle.exact.specs.Class.{clash}
use Rattle.cutkeys.specs.declared.keys.Text.{Text}
use Rattle.cutkeys.specs.declared.keys.Named.{Named}
use Rattle.cutkeys.specs.declared.keys.Found.{Found}
use Rattle.cutkeys.specs.declared.keys.Pair.{Pair}
use Rattle.cutkeys.specs.declared.keys.Size.{Size}
use Rattle.cutkeys.specs.Places.{size_of, end_of, text_at, beyond, end_after, size_of_lem, end_of_lem}
use Rattle.cutkeys.specs.Kept.{first_of, first_over, first_here, first_later}
use Rattle.cutkeys.specs.Keys.{Stands, stands_low, stands_end, Keyed, all_keys}
use Rattle.cutkeys.specs.Whole.{Texts, Names, whole_at, whole_at_lem, text_inside, whole_part, whole_text}
use Rattle.cutkeys.specs.Runs.{Runs, Run, run_none, run_unknown, run_near, run_runs, run_length, MadeAsked, Made, made_run}
use Rattle.cutkeys.specs.Near.{Paired, pair_beyond, pair_names}

-- ---- a field by its extent

pub record Sized (v : List ℕ) (at : ℕ) (r : Size) : Type 0 where
  pub bytes : r.bytes ≡ size_of v at
  pub end : r.end ≡ end_of v at

module _ (v : List ℕ) (stop at : ℕ) (u : Stands v stop at) where
  module _ (s : Option Span) (t : Told v at stop s) where
    pub field_told : (f : Span) → s ≡ Some f → Sized v at (record { bytes = f.bytes; end = f.end })
    field_told f z = by (subst (Told v at stop) z t)
      where
        by : Whole v at stop f.tag f.bytes f.end → Sized v at (record { bytes = f.bytes; end = f.end })
        by w =
            record {
              bytes = sym (size_of_lem v f.tag w.content w.true_tag w.here ∙ w.count);
              end = w.ends ∙ sym (end_of_lem v f.tag w.content w.true_tag w.here);
            }

    pub field_none : s ≡ None → (n e : ℕ) → Sized v at (record { bytes = n; end = e })
    field_none z n e = absurd (subst (Told v at stop) z t u.kind u.inner u.true_tag u.here u.below)

pub ruleset fielding = (stands_low, field_told, field_none, rules)

-- ---- the key at a place

module _ (stored starts : List ℕ) (d stop p : ℕ) (k : Keyed stored starts d stop p) where
  abbrev w : List ℕ
  w = viewed stored starts d

  low : p + 3 ≤ stop
  low = omega (arith, stands_end k.key, end_after w p)

  pub stop_few : stop ≤ lent
  stop_few = omega (arith, view_less stored starts d, k.frame.few, k.frame.fits)

  pub key_lies : Lies stored starts d p stop
  key_lies = record { low = omega (arith, k.frame.deep); few = k.frame.few; order = let l = low in omega arith; inside_view = k.frame.fits }

  pub key_field : Stands w stop p
  key_field = k.key

  module _ (r : Size) (z : Sized w p r) where
    pub key_value : Stands w stop r.end
    key_value = subst (Stands w stop) (sym z.end) k.value

    pub key_text : p + 3 + r.bytes ≤ stop
    key_text = let i = text_inside stored starts d k.frame k.key in omega (arith, z.bytes)

    pub key_cut : (u : Size) → Sized w r.end u → (n : Named) → Texts starts d p r.bytes n.text → n.next ≡ u.end → Names starts d p (size_of w p) (beyond w p) n
    key_cut u y n h e = record { text = subst (λ (i : ℕ). Texts starts d p i n.text) z.bytes h; next = e ∙ (y.end ∙ ap (end_of w) z.end) }

  -- .. before the nearest cut
  module _ (place left : ℕ) (n : Run stored starts d p stop place left) where
    abbrev bit : List ℕ
    bit = take (place + left - place) (drop place stored)

    runs : Runs stored starts d p stop place bit
    runs = run_runs stored starts d p stop place left n (let l = low in omega arith)

    pub key_end_fits : place + left ≤ lent
    key_end_fits = omega (arith, n.inside, k.frame.few)

    pub key_inside : place + left ≤ length stored
    key_inside = n.inside

    pub key_short : length (take (place + left - place) (drop place stored)) ≤ 65535
    key_short = runs.short

    module _ (o : Option Pair) (t : Paired (take (place + left - place) (drop place stored)) 0 o) (q : Pair) (f : o ≡ Some q) where
      pub key_made : (x : Named) → Made p place left q.end q.next x → Names starts d p (size_of w p) (beyond w p) x
      key_made x m = pair_names stored starts d p stop place bit runs k o t q f left x m

      pub key_made_asked : MadeAsked p place left q.end q.next
      key_made_asked =
          let x = t.near q f in
          let y = pair_beyond stored starts d p stop place bit runs k o t q f in
          let g = stop_few in
          record {
            far = omega (arith, stands_end k.value);
            to = omega (arith, x.fits, run_length stored starts d p stop place left n, n.inside, k.frame.few);
            begins = x.begins;
            few = key_end_fits;
          }

pub ruleset keying = (stop_few, key_lies, key_field, key_value, key_text, key_cut, run_none, run_unknown, rules)

-- where its bytes before a cut are known, and where they are asked for
pub ruleset running = (key_lies, run_near, key_end_fits, key_inside, key_short, key_made, made_run, key_made_asked, rules)

-- ---- the first from a place on that stands whole

-- its text, and the place of the key behind it
pub record Spoken (stored starts : List ℕ) (d : ℕ) (r : Found) : Type 0 where
  pub part : Part stored r.text.from r.text.to
  pub text : text_at (viewed stored starts d) r.place ≡ slice r.text.from r.text.to stored
  pub next : r.next ≡ beyond (viewed stored starts d) r.place
  pub few : r.text.to ≤ lent

-- a key found
pub record Seen' (stored starts : List ℕ) (d stop : ℕ) (r : Found) : Type 0 where
  pub keys : Open (all_keys stored starts d stop) r.place
  pub low : r.place < stop
  pub there : Spoken stored starts d r
  pub run : Run stored starts d r.next stop r.reach.place r.reach.left

-- .. or none
pub record Seeing (stored starts : List ℕ) (d stop : ℕ) (o : Option Found) : Type 0 where
  pub seen : (r : Found) → o ≡ Some r → Seen' stored starts d stop r

-- its place, or where the content ends
abbrev pub place_in : ℕ → Option Found → ℕ
place_in stop (Some r) = r.place
place_in stop None = stop

-- .. the first from `at` on
pub record Seeks (stored starts : List ℕ) (d stop at : ℕ) (o : Option Found) : Type 0 where
  pub seeing : Seeing stored starts d stop o
  pub is : place_in stop o ≡ first_of (all_keys stored starts d stop) (whole_at stored starts d) at

found_or : Found → Option Found → Found
found_or x (Some y) = y
found_or x None = x

same_found : {x y : Found} → ◌≡◌ {A = Option Found} (Some x) (Some y) → x ≡ y
unfolding found_or
same_found {x} e = ap (found_or x) e

-- the walk has come to p
pub record Seeking (stored starts : List ℕ) (d stop at p : ℕ) : Type 0 where
  pub keys : Open (all_keys stored starts d stop) p
  pub same : first_of (all_keys stored starts d stop) (whole_at stored starts d) p ≡ first_of (all_keys stored starts d stop) (whole_at stored starts d) at

module _ (stored starts : List ℕ) (d stop at : ℕ) where
  abbrev D : Road
  D = all_keys stored starts d stop

  at_end : (p : ℕ) → Open D p → stop ≤ p → p ≡ stop
  at_end p k l = let m = walks_le D k.walks in omega arith

  pub seek_first : Open D at → Seeking stored starts d stop at at
  seek_first k = record { keys = k; same = refl }

  module _ (p : ℕ) (s : Seeking stored starts d stop at p) where
    pub seek_over : stop ≤ p → Seeks stored starts d stop at None
    seek_over l =
        record {
          seeing = record { seen = λ r e. absurd (clash (ap is_some e) refl) };
          is = sym (at_end p s.keys l) ∙ (first_over D (whole_at stored starts d) p s.keys l ∙ s.same);
        }

    module _ (l : p < stop) where
      pub seek_keyed : Keyed stored starts d stop p
      seek_keyed = open_good D p s.keys l

      module _ (k : Named) (h : Names starts d p (size_of (viewed stored starts d) p) (beyond (viewed stored starts d) p) k) where
        whole_is : {b : Bool} → is_some k.text ≡ b → whole_at stored starts d p ≡ b
        whole_is e = whole_at_lem stored starts d p ∙ (sym h.text.whole ∙ e)

        pub seek_found : (t : Text) → k.text ≡ Some t → Run stored starts d k.next stop k.reach.place k.reach.left
            → Seeks stored starts d stop at (Some (record { place = p; text = t; next = k.next; reach = k.reach }))
        seek_found t e u =
            let g = seek_keyed in
            let y = whole_is (ap is_some e) in
            let q = whole_part stored starts d g.frame g.key y t.from t.to (h.text.from t e) (h.text.to t e) in
            record {
              seeing =
                  record {
                    seen = λ r z.
                        subst (Seen' stored starts d stop) (same_found z)
                        (record {
                          keys = s.keys;
                          low = l;
                          there = record { part = q; text = whole_text stored starts d g.frame g.key y t.from t.to (h.text.from t e) (h.text.to t e); next = h.next; few = omega (arith, q.fits, g.frame.few) };
                          run = u;
                        });
                  };
              is = first_here D (whole_at stored starts d) p s.keys l y ∙ s.same;
            }

        pub seek_on : k.text ≡ None → Seeking stored starts d stop at k.next
        seek_on e =
            record {
              keys = open_next D p s.keys l k.next h.next;
              same = ap (first_of D (whole_at stored starts d)) h.next ∙ (first_later D (whole_at stored starts d) p s.keys l (whole_is (ap is_some e)) ∙ s.same);
            }

        pub seek_less : stop - k.next < stop - p
        seek_less = open_less D p s.keys l k.next h.next

pub ruleset seeking = (seek_first, seek_over, seek_keyed, seek_found, seek_on, seek_less, rules)
