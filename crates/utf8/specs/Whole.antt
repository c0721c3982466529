-- A sequence of allowed characters is what the machine scans to a whole, from one character into the next; and what it scans alive begins one. Assumes nothing.
use Rattle.std.specs.Prelude.{◌≡◌, refl, List, [], ◌∷◌, ◌++◌, ◌⊎◌, Bool, true, false, ℕ, suc, ◌≤◌, leb, eqb}
use Rattle.std.proofs.Common.{sym, ap, subst, ◌∙◌, inl, inr, arith, leb-true, eqb-true}
use Rattle.exact.specs.Verdict.{Begins}
use Rattle.exact.specs.Class.{clash, Class, and, is, apart, and_of, or_of, none}
use Rattle.exact.specs.Lang.{End, end}
use Rattle.exact.specs.Comb.{Star, nil, cons}
use Rattle.exact.specs.Run.{Run, lives, stay, ahead}
use Rattle.language.specs.Characters.{ascii, Char, Allowed}
use Rattle.utf8.specs.Char.{char_spelt}
pub use Rattle.utf8.specs.Tails.{left_of, tail_byte, every, followed, begun, left_live, left_most, full_done, tail_step}
use Rattle.utf8.specs.Utf8.{At, table, Kind, kind, lively, live, full, next, stuck, laws, start, done, dead, one_more, two_more, after_c2, after_e0, after_ed, after_ef, after_ef_b7, after_f0, after_f1, after_f4, plane_end, last, char_end, char_lost, char_inside}

-- THE MACHINE: a character may begin after one
abbrev pub restart : Kind → At → At
restart char_end σ = start
restart char_lost σ = σ
restart char_inside σ = σ

abbrev pub step : At → ℕ → At
step σ b = next ascii (restart (kind σ) σ) b

abbrev pub scan : At → List ℕ → At
scan σ [] = σ
scan σ (b ∷ u) = scan (step σ b) u

-- between two characters
abbrev pub whole : At → Bool
whole σ = and (live σ) (eqb (left_of σ) 0)

-- what goes on is alive
pub step_back : (σ : At) (b : ℕ) → live (step σ b) ≡ true → live σ ≡ true
step_back σ b e = by (kind σ) refl (stuck ascii (restart (kind σ) σ) b e)
  where
    by : (k : Kind) → kind σ ≡ k → kind (restart k σ) ≡ char_inside → lively k ≡ true
    by char_end h f = refl
    by char_lost h f = ap lively (sym h ∙ f)
    by char_inside h f = refl

pub scan_back : (u : List ℕ) (σ : At) → live (scan σ u) ≡ true → live σ ≡ true
scan_back [] σ e = e
scan_back (b ∷ u) σ e = step_back σ b (scan_back u (step σ b) e)

pub scan_append : (u m : List ℕ) (σ : At) → scan σ (u ++ m) ≡ scan (scan σ u) m
scan_append [] m σ = refl
scan_append (b ∷ u) m σ = scan_append u m (step σ b)

abbrev opening : Class → At → Bool
opening c σ = and (apart c tail_byte) (begun σ)

opening_all : every opening (table ascii start) ≡ true
opening_all = refl

-- between two characters the next one starts
pub whole_start : (σ : At) → live σ ≡ true → left_of σ ≡ 0 → restart (kind σ) σ ≡ start
whole_start start e l = refl
whole_start done e l = refl
whole_start dead e l = absurd (clash e refl)
whole_start one_more e l = absurd (omega arith)
whole_start two_more e l = absurd (omega arith)
whole_start after_c2 e l = absurd (omega arith)
whole_start after_e0 e l = absurd (omega arith)
whole_start after_ed e l = absurd (omega arith)
whole_start after_ef e l = absurd (omega arith)
whole_start after_ef_b7 e l = absurd (omega arith)
whole_start after_f0 e l = absurd (omega arith)
whole_start after_f1 e l = absurd (omega arith)
whole_start after_f4 e l = absurd (omega arith)
whole_start plane_end e l = absurd (omega arith)
whole_start last e l = absurd (omega arith)

pub whole_of : (σ : At) → whole σ ≡ true → (live σ ≡ true) × (left_of σ ≡ 0)
whole_of σ e = let x = and_of (live σ) (eqb (left_of σ) 0) e in (x.0, eqb-true (left_of σ) 0 x.1)

-- inside a character: a tail byte, and one less is left
pub inside_step : (σ : At) (b : ℕ) → 1 ≤ left_of σ → live (step σ b) ≡ true
    → (step σ b ≡ next ascii σ b) × (is tail_byte b ≡ true) × (suc (left_of (step σ b)) ≡ left_of σ) × (begun (step σ b) ≡ true)
inside_step σ b l e =
    let r : restart (kind σ) σ ≡ σ = ap (λ (k : Kind). restart k σ) (left_live σ l) in
    let s : step σ b ≡ next ascii σ b = ap (λ (τ : At). next ascii τ b) r in
    let t = tail_step ascii σ b l (subst (λ (τ : At). live (next ascii τ b) ≡ true) r e) in
    (s, t.0, subst (λ (τ : At). suc (left_of τ) ≡ left_of σ) (sym s) t.1, subst (λ (τ : At). begun τ ≡ true) (sym s) t.2)

-- between two characters: no tail byte
pub outside_step : (σ : At) (b : ℕ) → live σ ≡ true → left_of σ ≡ 0 → live (step σ b) ≡ true
    → (step σ b ≡ next ascii start b) × (is tail_byte b ≡ false) × (begun (next ascii start b) ≡ true)
outside_step σ b v l e =
    let s : step σ b ≡ next ascii start b = ap (λ (τ : At). next ascii τ b) (whole_start σ v l) in
    let f = followed opening (table ascii start) b opening_all (subst (λ (τ : At). live τ ≡ true) s e) in
    let g = and_of (apart f.0 tail_byte) (begun (next ascii start b)) f.2 in
    (s, no (is tail_byte b) refl f.0 g.0 f.1, g.1)
  where
    no : (x : Bool) → is tail_byte b ≡ x → (c : Class) → apart c tail_byte ≡ true → is c b ≡ true → is tail_byte b ≡ false
    no true x c a y = absurd (none c tail_byte b a y x)
    no false x c a y = x

-- A SEQUENCE OF ALLOWED CHARACTERS is what the machine scans to a whole
pub from_full : (σ : At) (s : List ℕ) → full σ ≡ true → whole (scan start s) ≡ true → whole (scan σ s) ≡ true
from_full σ s e h = subst (λ (τ : At). whole (scan τ s) ≡ true) (sym (full_done σ e)) (same_start s h)
  where
    same_start : (s : List ℕ) → whole (scan start s) ≡ true → whole (scan done s) ≡ true
    same_start [] h = refl
    same_start (b ∷ s) h = h

pub whole_run : {σ : At} {at : ℕ} {s w : List ℕ} {at' : ℕ} {t : List ℕ} → Run (next ascii) full live σ at s w at' t → whole (scan start t) ≡ true → whole (scan σ s) ≡ true
whole_run (stay {σ = σ} {s = s} e) h = from_full σ s e h
whole_run (ahead {σ = σ} {b = b} {s = s} x) h =
    let k : kind σ ≡ char_inside = stuck ascii σ b (lives (next ascii) full live (laws ascii) x) in
    subst (λ (k : Kind). whole (scan (next ascii (restart k σ) b) s) ≡ true) (sym k) (whole_run x h)

star_whole : {at : ℕ} {s : List ℕ} {vs : List (List ℕ)} {at' : ℕ} {t : List ℕ} → Star (Char ascii) at s vs at' t → whole (scan start t) ≡ true → whole (scan start s) ≡ true
star_whole nil h = h
star_whole (cons x y) h = whole_run (char_spelt ascii x) (star_whole y h)

pub allowed_whole : (s : List ℕ) (w : List (List ℕ)) → Allowed s w → whole (scan start s) ≡ true
allowed_whole s w x = star_whole x.first (at_end x.others)
  where
    at_end : {v : List (List ℕ)} {a : ℕ} {t : List ℕ} → End v a t w → whole (scan start t) ≡ true
    at_end end = refl

-- the rest of the text from between two characters, and from inside one
pub record Rest (at : ℕ) (s : List ℕ) : Type 0 where
  pub chars : List (List ℕ)
  pub stop_at : ℕ
  pub read : Star (Char ascii) at s chars stop_at []

pub record Rest-in (σ : At) (at : ℕ) (s : List ℕ) : Type 0 where
  pub bytes : List ℕ
  pub middle : ℕ
  pub rest : List ℕ
  pub char : Run (next ascii) full live σ at s bytes middle rest
  pub others : Rest middle rest

-- what is alive has an end
pub ends : (σ : At) → live σ ≡ true → (w : List ℕ) × (whole (scan σ w) ≡ true)
ends start e = ([], refl)
ends done e = ([], refl)
ends dead e = absurd (clash e refl)
ends one_more e = (128 ∷ [], refl)
ends two_more e = (128 ∷ 128 ∷ [], refl)
ends after_c2 e = (160 ∷ [], refl)
ends after_e0 e = (160 ∷ 128 ∷ [], refl)
ends after_ed e = (128 ∷ 128 ∷ [], refl)
ends after_ef e = (128 ∷ 128 ∷ [], refl)
ends after_ef_b7 e = (128 ∷ [], refl)
ends after_f0 e = (144 ∷ 128 ∷ 128 ∷ [], refl)
ends after_f1 e = (128 ∷ 128 ∷ 128 ∷ [], refl)
ends after_f4 e = (128 ∷ 128 ∷ 128 ∷ [], refl)
ends plane_end e = (128 ∷ 128 ∷ [], refl)
ends last e = (128 ∷ [], refl)

pub begins_live : (u : List ℕ) → Begins Allowed u → live (scan start u) ≡ true
begins_live u b =
    scan_back
    b.more
    (scan start u)
    (subst (λ (σ : At). live σ ≡ true) (scan_append u b.more start) (whole_of (scan start (u ++ b.more)) (allowed_whole (u ++ b.more) b.value b.word)).0)
