-- A CONTENT AS A TEXT: its bytes counted, one of them, and a run of them up to the nearest cut. Assumes nothing.
use Rattle.std.specs.Prelude.{◌≡◌, List, ℕ, ◌+◌, ◌-◌, ◌≤◌, ◌<◌, length, get_or, take, drop}
use Rattle.std.proofs.Common.{sym, ap, ◌∙◌, arith, length-take, length-drop, get_or-take, get_or-drop, rules}
use Rattle.std.proofs.Math.Decide.{dec_le}
use Rattle.std.proofs.Math.ListN.{get_or-eq_default}
use Rattle.language.specs.Lent.{lent}
use Rattle.integers.specs.Text.{Counted, Peeked, Run}
use Rattle.views.specs.Views.{viewed, place_of, view_byte, view_less, Seen, Reached, ByteAsked, Content, run_slice, peek_asked, peek_byte, peek_past}

module _ {stored starts : List ℕ} {d n : ℕ} (h : Content stored starts d n) where
  abbrev s : List ℕ
  s = take n (viewed stored starts d)

  -- as many bytes as the content has
  pub content_length : length (take n (viewed stored starts d)) ≡ n
  content_length = omega (arith, length-take n (viewed stored starts d), h.fits)

  pub content_few : n ≤ lent
  content_few = omega (arith, view_less stored starts d, h.few, h.fits)

  pub content_low : d ≤ 34
  content_low = h.low

  pub content_seen : {at : ℕ} → at < length s → Seen starts d at
  content_seen l = record { stored = stored; few = h.few; inside_view = omega (arith, h.fits, content_length) }

  view_octets : ((i : ℕ) → get_or stored i 0 < 256) → (i : ℕ) → get_or (viewed stored starts d) i 0 < 256
  view_octets f i = by (dec_le (length (viewed stored starts d)) i)
    where
      by : Dec (length (viewed stored starts d) ≤ i) → get_or (viewed stored starts d) i 0 < 256
      by (yes l) = omega (arith, get_or-eq_default (viewed stored starts d) 0 l)
      by (no l) = omega (arith, view_byte stored starts d i (omega arith), f (place_of starts d i))

  pub content_counted : {m : ℕ} → m ≡ n → ((i : ℕ) → get_or stored i 0 < 256) → Counted (take n (viewed stored starts d)) m
  content_counted e f = record { count = omega (arith, content_length); few = omega (arith, content_length, content_few); octets = λ i. by i (dec_le n i) }
    where
      by : (i : ℕ) → Dec (n ≤ i) → get_or s i 0 < 256
      by i (yes l) = omega (arith, get_or-eq_default s 0 (let z : length s ≤ i = omega (arith, content_length) in z))
      by i (no l) = omega (arith, get_or-take n (viewed stored starts d) i 0 (let z : i < n = omega arith in z), view_octets f i)

  pub content_peeked : {at b : ℕ} → at < n → b ≡ get_or (viewed stored starts d) at 0 → Peeked (take n (viewed stored starts d)) at b
  content_peeked l e = record { byte = peek_byte h l e; few = omega (arith, content_length, content_few) }

  pub content_past : {at : ℕ} → n ≤ at → Peeked (take n (viewed stored starts d)) at 0
  content_past l = record { byte = peek_past h l; few = omega (arith, content_length, content_few) }

  module _ {at place left : ℕ} (l : at < length s) (r : Reached starts d at (n - at) place left) where
    abbrev x : List ℕ
    x = take (place + left - place) (drop place stored)

    pub run_inside : place + left ≤ length stored
    run_inside = (run_slice stored starts d at (n - at) place left r (omega (arith, h.fits, content_length)) (omega (arith, h.fits, content_length, r.least)) left (omega arith)).0

    run_length : length x ≡ left
    run_length = omega (arith, length-take (place + left - place) (drop place stored), run_inside, length-drop place stored)

    -- a byte of the run is one of the content
    same_byte : (j : ℕ) → j < left → get_or x j 0 ≡ get_or s (at + j) 0
    same_byte j m =
        get_or-take (place + left - place) (drop place stored) j 0 (omega arith)
        ∙ (get_or-drop place stored j 0
        ∙ (ap (λ i. get_or stored i 0) (sym (r.same j m))
        ∙ (sym (view_byte stored starts d (at + j) (omega (arith, h.fits, r.least, content_length)))
        ∙ sym (get_or-take n (viewed stored starts d) (at + j) 0 (omega (arith, r.least, content_length))))))

    pub content_run : Run (take n (viewed stored starts d)) at (take (place + left - place) (drop place stored))
    content_run = record {
      some = omega (arith, run_length, r.some (omega (arith, content_length)));
      inside = omega (arith, run_length, r.least, content_length);
      same = λ j m. same_byte j (omega (arith, run_length));
      few = omega (arith, content_length, content_few);
    }

pub ruleset contents = (content_length, content_few, content_low, content_seen, run_inside, rules)
