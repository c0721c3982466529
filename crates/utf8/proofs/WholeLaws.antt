-- A sequence of allowed characters is what the machine scans to a whole, from one character into the next; and what it scans alive begins one. Assumes nothing.
use Rattle.std.specs.Prelude.{◌≡◌, refl, List, [], ◌∷◌, ◌++◌, ◌⊎◌, Bool, true, false, ℕ, suc, ◌≤◌, leb, eqb}
use Rattle.std.proofs.Common.{sym, ap, subst, ◌∙◌, inl, inr, arith, leb-true, eqb-true}
use Rattle.exact.specs.Verdict.{Begins}
use Rattle.exact.specs.Class.{clash, Class, and, is, apart, and_of, or_of, none}
use Rattle.exact.specs.Lang.{End, end}
use Rattle.exact.specs.Comb.{Star, nil, cons}
use Rattle.exact.specs.Run.{Run, lives, stay, ahead}
use Rattle.language.specs.Characters.{ascii, Char, Allowed}
use Rattle.utf8.specs.Char.{char_spelt}
use Rattle.utf8.proofs.CharLaws.{spelt_char}
use Rattle.utf8.specs.Tails.{left_of, tail_byte, every, followed, begun, left_live, left_most, full_done, tail_step}
use Rattle.utf8.specs.Utf8.{At, table, Kind, kind, lively, live, full, next, stuck, laws, start, done, dead, one_more, two_more, after_c2, after_e0, after_ed, after_ef, after_ef_b7, after_f0, after_f1, after_f4, plane_end, last, char_end, char_lost, char_inside}
use Rattle.utf8.specs.Whole.{Rest, Rest-in, ends, inside_step, outside_step, scan, scan_append, scan_back, step, whole, whole_of}

-- one byte more
module _ (b : ℕ) (s : List ℕ) (at : ℕ) (ih : (σ : At) → begun σ ≡ true → whole (scan σ s) ≡ true → Rest-in σ (suc at) s) where
  rest_here : whole (scan start (b ∷ s)) ≡ true → Rest at (b ∷ s)
  rest_here e =
      let o = outside_step start b refl refl (scan_back s (step start b) (whole_of (scan (step start b) s) e).0) in
      let r = ih (next ascii start b) o.2 e in
      record { chars = (b ∷ r.bytes) ∷ r.others.chars; stop_at = r.others.stop_at; read = cons (spelt_char ascii (ahead r.char)) r.others.read }

  rest_inside : (σ : At) → begun σ ≡ true → whole (scan σ (b ∷ s)) ≡ true → Rest-in σ at (b ∷ s)
  rest_inside σ g e = by (or_of (full σ) (leb 1 (left_of σ)) g)
    where
      by : (full σ ≡ true) ⊎ (leb 1 (left_of σ) ≡ true) → Rest-in σ at (b ∷ s)
      by (inl f) =
          record {
            bytes = [];
            middle = at;
            rest = b ∷ s;
            char = stay f;
            others = rest_here (subst (λ (τ : At). whole (scan τ (b ∷ s)) ≡ true) (full_done σ f) e);
          }
      by (inr l) =
          let i = inside_step σ b (leb-true 1 (left_of σ) l) (scan_back s (step σ b) (whole_of (scan (step σ b) s) e).0) in
          let r = ih (next ascii σ b) (subst (λ (τ : At). begun τ ≡ true) i.0 i.3) (subst (λ (τ : At). whole (scan τ s) ≡ true) i.0 e) in
          record { bytes = b ∷ r.bytes; middle = r.middle; rest = r.rest; char = ahead r.char; others = r.others }

rests : (s : List ℕ) (at : ℕ) → (whole (scan start s) ≡ true → Rest at s) × ((σ : At) → begun σ ≡ true → whole (scan σ s) ≡ true → Rest-in σ at s)
rests [] at = ((λ e. here), inside_of)
  where
    here : Rest at []
    here = record { chars = []; stop_at = at; read = nil }

    inside_of : (σ : At) → begun σ ≡ true → whole σ ≡ true → Rest-in σ at []
    inside_of σ b e = by (or_of (full σ) (leb 1 (left_of σ)) b)
      where
        by : (full σ ≡ true) ⊎ (leb 1 (left_of σ) ≡ true) → Rest-in σ at []
        by (inl f) = record { bytes = []; middle = at; rest = []; char = stay f; others = here }
        by (inr l) = absurd (omega (arith, leb-true 1 (left_of σ) l, (whole_of σ e).1))
rests (b ∷ s) at = (rest_here b s at (rests s (suc at)).1, rest_inside b s at (rests s (suc at)).1)

pub whole_allowed : (s : List ℕ) → whole (scan start s) ≡ true → (w : List (List ℕ)) × Allowed s w
whole_allowed s e =
    let r = (rests s 0).0 e in
    (r.chars, record { value = r.chars; next = r.stop_at; rest = []; first = r.read; others = end })

pub live_begins : (u : List ℕ) → live (scan start u) ≡ true → Begins Allowed u
live_begins u e =
    let w = ends (scan start u) e in
    let a = whole_allowed (u ++ w.0) (subst (λ (σ : At). whole σ ≡ true) (sym (scan_append u w.0 start)) w.1) in
    record { more = w.0; value = a.0; word = a.1 }
