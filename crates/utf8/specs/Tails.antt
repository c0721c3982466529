-- Inside a character: a byte that goes on is a tail byte, and there is one less to come. Assumes nothing.
use Rattle.std.specs.Prelude.{◌≡◌, refl, List, [], ◌∷◌, Bool, true, false, ℕ, suc, ◌≤◌, leb, eqb}
use Rattle.std.proofs.Common.{arith, eqb-true}
use Rattle.exact.specs.Class.{pick, clash, Class, and, or, is, and_of, sub, inside, ◌to◌}
use Rattle.utf8.specs.Utf8.{At, Arrow, table, follow, kind, live, full, next, start, done, dead, one_more, two_more, after_c2, after_e0, after_ed, after_ef, after_ef_b7, after_f0, after_f1, after_f4, plane_end, last, ◌to-be◌, char_inside}

-- the bytes that are left of a character
abbrev pub left_of : At → ℕ
left_of start = 0
left_of done = 0
left_of dead = 0
left_of one_more = 1
left_of two_more = 2
left_of after_c2 = 1
left_of after_e0 = 2
left_of after_ed = 2
left_of after_ef = 2
left_of after_ef_b7 = 1
left_of after_f0 = 3
left_of after_f1 = 3
left_of after_f4 = 3
left_of plane_end = 2
left_of last = 1

-- a test of every row of a table holds of the row that is followed
abbrev pub every : (Class → At → Bool) → List Arrow → Bool
every T [] = true
every T ((c to-be σ) ∷ rows) = and (T c σ) (every T rows)

pub followed : (T : Class → At → Bool) (rows : List Arrow) (b : ℕ) → every T rows ≡ true → live (follow rows b) ≡ true
    → (c : Class) × (is c b ≡ true) × (T c (follow rows b) ≡ true)
followed T [] b h e = absurd (clash e refl)
followed T ((c to-be σ) ∷ rows) b h e = by (is c b) refl e (followed T rows b)
  where
    by : (x : Bool) → is c b ≡ x → live (pick x σ (follow rows b)) ≡ true
        → (every T rows ≡ true → live (follow rows b) ≡ true → (d : Class) × (is d b ≡ true) × (T d (follow rows b) ≡ true))
        → (d : Class) × (is d b ≡ true) × (T d (pick x σ (follow rows b)) ≡ true)
    by true x e ih = (c, x, (and_of (T c σ) (every T rows) h).0)
    by false x e ih = ih (and_of (T c σ) (every T rows) h).1 e

-- a byte that goes on in a character
abbrev pub tail_byte : Class
tail_byte = (128 to 191) ∷ []

-- begun: at the end, or with bytes left
abbrev pub begun : At → Bool
begun σ = or (full σ) (leb 1 (left_of σ))

abbrev going : ℕ → Class → At → Bool
going n c σ = and (sub c tail_byte) (and (eqb (suc (left_of σ)) n) (begun σ))

going_all : (plain : Class) (σ : At) → 1 ≤ left_of σ → every (going (left_of σ)) (table plain σ) ≡ true
going_all plain start l = absurd (omega arith)
going_all plain done l = absurd (omega arith)
going_all plain dead l = absurd (omega arith)
going_all plain one_more l = refl
going_all plain two_more l = refl
going_all plain after_c2 l = refl
going_all plain after_e0 l = refl
going_all plain after_ed l = refl
going_all plain after_ef l = refl
going_all plain after_ef_b7 l = refl
going_all plain after_f0 l = refl
going_all plain after_f1 l = refl
going_all plain after_f4 l = refl
going_all plain plane_end l = refl
going_all plain last l = refl

pub left_live : (σ : At) → 1 ≤ left_of σ → kind σ ≡ char_inside
left_live start l = absurd (omega arith)
left_live done l = absurd (omega arith)
left_live dead l = absurd (omega arith)
left_live one_more l = refl
left_live two_more l = refl
left_live after_c2 l = refl
left_live after_e0 l = refl
left_live after_ed l = refl
left_live after_ef l = refl
left_live after_ef_b7 l = refl
left_live after_f0 l = refl
left_live after_f1 l = refl
left_live after_f4 l = refl
left_live plane_end l = refl
left_live last l = refl

pub left_most : (σ : At) → left_of σ ≤ 3
left_most start = omega arith
left_most done = omega arith
left_most dead = omega arith
left_most one_more = omega arith
left_most two_more = omega arith
left_most after_c2 = omega arith
left_most after_e0 = omega arith
left_most after_ed = omega arith
left_most after_ef = omega arith
left_most after_ef_b7 = omega arith
left_most after_f0 = omega arith
left_most after_f1 = omega arith
left_most after_f4 = omega arith
left_most plane_end = omega arith
left_most last = omega arith

pub full_done : (σ : At) → full σ ≡ true → σ ≡ done
full_done start e = absurd (clash e refl)
full_done done e = refl
full_done dead e = absurd (clash e refl)
full_done one_more e = absurd (clash e refl)
full_done two_more e = absurd (clash e refl)
full_done after_c2 e = absurd (clash e refl)
full_done after_e0 e = absurd (clash e refl)
full_done after_ed e = absurd (clash e refl)
full_done after_ef e = absurd (clash e refl)
full_done after_ef_b7 e = absurd (clash e refl)
full_done after_f0 e = absurd (clash e refl)
full_done after_f1 e = absurd (clash e refl)
full_done after_f4 e = absurd (clash e refl)
full_done plane_end e = absurd (clash e refl)
full_done last e = absurd (clash e refl)

-- A TAIL BYTE goes on
pub tail_step : (plain : Class) (σ : At) (b : ℕ) → 1 ≤ left_of σ → live (next plain σ b) ≡ true
    → (is tail_byte b ≡ true) × (suc (left_of (next plain σ b)) ≡ left_of σ) × (begun (next plain σ b) ≡ true)
tail_step plain σ b l e =
    let f = followed (going (left_of σ)) (table plain σ) b (going_all plain σ l) e in
    let g = and_of (sub f.0 tail_byte) (and (eqb (suc (left_of (next plain σ b))) (left_of σ)) (begun (next plain σ b))) f.2 in
    let h = and_of (eqb (suc (left_of (next plain σ b))) (left_of σ)) (begun (next plain σ b)) g.1 in
    (inside f.0 tail_byte b g.0 f.1, eqb-true (suc (left_of (next plain σ b))) (left_of σ) h.0, h.1)
