-- Where a character ends, by the state before its byte at i: what code learns that has a function for each state. Assumes nothing.
use Rattle.std.specs.Prelude.{◌≡◌, refl, List, Bool, true, ℕ, ◌+◌, ◌-◌, ◌*◌, ◌/◌, ◌%◌, ◌≤◌, ◌<◌, length, get_or, eqb, leb}
use Rattle.std.proofs.Common.{sym, ap, subst, ◌∙◌, arith}
use Rattle.std.proofs.Math.Decide.{dec_le}
use Rattle.std.proofs.Math.ListN.{get_or-eq_default}
use Rattle.std.specs.declared.option.Option.{Option}
use Rattle.std.specs.declared.option.Option.TheVariants.{None, Some}
use borrow.Author.Tests.{eqb-true, leb-true}
use Rattle.exact.specs.Class.{and, and_of}
use Rattle.language.specs.Characters.{ascii}
use Rattle.utf8.specs.Utf8.{At, table, next, kind, char_inside, start, done, two_more, after_f0, after_f1, after_f4, plane_end}
use Rattle.utf8.specs.OverNumbers.{says, through, says_yes}
use Rattle.utf8.specs.Scan.{code, find, rows, step_code}
use Rattle.utf8.specs.Whole.{restart}
use Rattle.characters.specs.Reads.{Wide}
use Rattle.characters.specs.Going.{Going, going_first, going_more, going_done}

-- THE BYTE at i; 0 behind the end, so that one that is not 0 stands inside
pub record ByteAt (doc : List ℕ) (i b : ℕ) : Type 0 where
  pub is : b ≡ get_or doc i 0
  pub inside : b ≤ 255 * (length doc - i)

module _ (doc : List ℕ) (i : ℕ) where
  pub byte_there : i < length doc → get_or doc i 0 < 256 → ByteAt doc i (get_or doc i 0)
  byte_there l h = record { is = refl; inside = omega arith }

  pub byte_over : length doc ≤ i → ByteAt doc i 0
  byte_over h = record { is = sym (get_or-eq_default doc 0 h); inside = omega arith }

-- A BYTE from l to h stands at i, and n is the place behind it; where there is none nothing is said
pub record Stood (doc : List ℕ) (i l h n : ℕ) : Type 0 where
  pub there : i < length doc
  pub low : l ≤ get_or doc i 0
  pub high : get_or doc i 0 ≤ h
  pub next : n ≡ i + 1

unfoldable pub Within : List ℕ → ℕ → ℕ → ℕ → Option ℕ → Type 0
Within doc i l h (Some n) = Stood doc i l h n
Within doc i l h None = Unit {0}

module _ (doc : List ℕ) (i l h : ℕ) where
  pub within_it : i < length doc → l ≤ get_or doc i 0 → get_or doc i 0 ≤ h → Within doc i l h (Some (i + 1))
  unfolding Within
  within_it x y z = record { there = x; low = y; high = z; next = refl }

  pub within_none : Within doc i l h None
  unfolding Within
  within_none = tt

  pub within_stood : (r : Option ℕ) (n : ℕ) → r ≡ Some n → Within doc i l h r → Stood doc i l h n
  unfolding Within
  within_stood r n e w = rw e at w

  pub within_there : (r : Option ℕ) (n : ℕ) → r ≡ Some n → Within doc i l h r → i < length doc
  within_there r n e w = (within_stood r n e w).there

-- THE REST: the character ends at n, whatever of it stands before i; where there is none nothing is said
unfoldable pub Rest : List ℕ → ℕ → At → Option ℕ → Type 0
Rest doc i σ (Some n) = (at : ℕ) → 128 ≤ get_or doc at 0 → Going doc at i (code σ) → Wide doc at n
Rest doc i σ None = Unit {0}

pub rest_none : (doc : List ℕ) (i : ℕ) (σ : At) → Rest doc i σ None
unfolding Rest
rest_none doc i σ = tt

pub rest_whole : (doc : List ℕ) (at : ℕ) (r : Option ℕ) (n : ℕ) → r ≡ Some n → Rest doc at start r → 128 ≤ get_or doc at 0 → Wide doc at n
unfolding Rest
rest_whole doc at r n e q h = (rw e at q) at h (going_first doc at)

-- every byte from l on and below h leads from σ to τ
abbrev pub leads_to : At → At → ℕ → ℕ → Bool
leads_to σ τ l h = and (leb 1 l) (says (λ ρ. eqb (code ρ) (code τ)) (table ascii σ) l (h - 1))

module _ (σ τ : At) (l h : ℕ) (led : leads_to σ τ l (h + 1) ≡ true) (inside : kind σ ≡ char_inside) (doc : List ℕ) (i n : ℕ) (s : Stood doc i l h n) where
  to_code : says (λ ρ. eqb (code ρ) (code τ)) (table ascii σ) l h ≡ true
  to_code = let e : h + 1 - 1 ≡ h = omega arith in subst (λ k. says (λ ρ. eqb (code ρ) (code τ)) (table ascii σ) l k ≡ true) e (and_of (leb 1 l) (says (λ ρ. eqb (code ρ) (code τ)) (table ascii σ) l (h + 1 - 1)) led).1

  finds : code τ ≡ find rows (code σ) (get_or doc i 0)
  finds =
      let b = get_or doc i 0 in
      sym (eqb-true (code (next ascii σ b)) (code τ) (says_yes b (λ ρ. eqb (code ρ) (code τ)) (table ascii σ) l h to_code s.low s.high))
      ∙ (ap (λ k. code (next ascii (restart k σ) b)) (sym inside) ∙ step_code σ b)

  stood_ends : code τ ≡ 1 → Rest doc i σ (Some n)
  unfolding Rest
  stood_ends o at wide g = rw s.next (going_done doc at i (code σ) g s.there (code τ) finds o wide)

  stood_on : leb 2 (code τ) ≡ true → (q : Option ℕ) → Rest doc n τ q → Rest doc i σ q
  unfolding Rest
  stood_on t None more = tt
  stood_on t (Some m) more = λ at wide g.
      let k = leb-true 2 (code τ) t in
      more at wide (rw s.next (going_more doc at i (code σ) g s.there (code τ) finds (λ z. omega arith) (λ z. omega arith)))

-- ---- by a byte of a range, where it is asked for as one

module _ (σ : At) (l h : ℕ) (led : leads_to σ done l (h + 1) ≡ true) (inside : kind σ ≡ char_inside) (doc : List ℕ) (i : ℕ) where
  pub rest_here : (r : Option ℕ) → Within doc i l h r → Rest doc i σ r
  unfolding Within
  rest_here None w = rest_none doc i σ
  rest_here (Some n) w = stood_ends σ done l h led inside doc i n w refl

module _ (σ τ : At) (l h : ℕ) (led : leads_to σ τ l (h + 1) ≡ true) (inside : kind σ ≡ char_inside) (more : leb 2 (code τ) ≡ true) (doc : List ℕ) (i : ℕ) where
  pub rest_then : (r : Option ℕ) → Within doc i l h r → (n : ℕ) → r ≡ Some n → (q : Option ℕ) → Rest doc n τ q → Rest doc i σ q
  rest_then r w n e q rest = stood_on σ τ l h led inside doc i n (within_stood doc i l h r n e w) more q rest

-- ---- by a byte that is there, whatever it is

stood_byte : (doc : List ℕ) (i b l h : ℕ) → ByteAt doc i b → 1 ≤ l → l ≤ b → b ≤ h → Stood doc i l h (i + 1)
stood_byte doc i b l h e o low high = record { there = omega (arith, e.inside); low = rw (← e.is) low; high = rw (← e.is) high; next = refl }

least_one : (l : ℕ) (x : Bool) → and (leb 1 l) x ≡ true → 1 ≤ l
least_one l x e = leb-true 1 l (and_of (leb 1 l) x e).0

module _ (σ : At) (l h : ℕ) (led : leads_to σ done l (h + 1) ≡ true) (inside : kind σ ≡ char_inside) (doc : List ℕ) (i b : ℕ) (e : ByteAt doc i b) where
  pub rest_ends : l ≤ b → b < h + 1 → Rest doc i σ (Some (i + 1))
  rest_ends low high = stood_ends σ done l h led inside doc i (i + 1) (stood_byte doc i b l h e (least_one l _ led) low (omega arith)) refl

module _ (σ τ : At) (l h : ℕ) (led : leads_to σ τ l (h + 1) ≡ true) (inside : kind σ ≡ char_inside) (more : leb 2 (code τ) ≡ true) (doc : List ℕ) (i b : ℕ) (e : ByteAt doc i b) (q : Option ℕ) (rest : Rest doc (i + 1) τ q) where
  pub rest_on : l ≤ b → b < h + 1 → Rest doc i σ q
  rest_on low high = stood_on σ τ l h led inside doc i (i + 1) (stood_byte doc i b l h e (least_one l _ led) low (omega arith)) more q rest

-- the same for one byte
module _ (σ τ : At) (l : ℕ) (led : leads_to σ τ l (l + 1) ≡ true) (inside : kind σ ≡ char_inside) (more : leb 2 (code τ) ≡ true) (doc : List ℕ) (i b : ℕ) (e : ByteAt doc i b) (q : Option ℕ) (rest : Rest doc (i + 1) τ q) where
  pub rest_by : b ≡ l → Rest doc i σ q
  rest_by x = rest_on σ τ l l led inside more doc i b e q rest (omega arith) (omega arith)

-- the same for those on both sides of one, m
module _ (σ τ : At) (l m h : ℕ) (below : leads_to σ τ l m ≡ true) (above : leads_to σ τ (m + 1) (h + 1) ≡ true) (inside : kind σ ≡ char_inside) (more : leb 2 (code τ) ≡ true) (doc : List ℕ) (i b : ℕ) (e : ByteAt doc i b) (q : Option ℕ) (rest : Rest doc (i + 1) τ q) where
  pub rest_sides : l ≤ b → b < h + 1 → (b ≡ m → ⊥) → Rest doc i σ q
  rest_sides low high n = by (dec_le b m)
    where
      by : Dec (b ≤ m) → Rest doc i σ q
      by (yes x) = let z : m - 1 + 1 ≡ m = omega arith in rest_on σ τ l (m - 1) (rw z below) inside more doc i b e q rest low (omega arith)
      by (no x) = rest_on σ τ (m + 1) h above inside more doc i b e q rest (omega arith) high

-- ---- THE SECOND OF FOUR BYTES, from l to h: the last of each sixteen leads to the end of a plane, the others to two tail bytes

abbrev sixteen : At → ℕ → Bool
sixteen σ k = and (leads_to σ two_more (16 * k) (16 * k + 14 + 1)) (leads_to σ plane_end (16 * k + 15) (16 * k + 15 + 1))

pub record Planes (σ : At) (l h : ℕ) : Type 0 where
  pub inside : kind σ ≡ char_inside
  pub each : (b : ℕ) → l ≤ b → b ≤ h → sixteen σ (b / 16) ≡ true

unfoldable pub Planed : List ℕ → ℕ → ℕ → ℕ → Option ℕ → Type 0
Planed doc i l h q = (σ : At) → Planes σ l h → Rest doc i σ q

module _ (doc : List ℕ) (i l h : ℕ) where
  pub planed_none : Planed doc i l h None
  unfolding Planed
  planed_none σ p = rest_none doc i σ

  module _ (r : Option ℕ) (n : ℕ) (e : r ≡ Some n) (w : Within doc i l h r) (q : Option ℕ) where
    both : (σ : At) (p : Planes σ l h) → let k = get_or doc i 0 / 16 in (leads_to σ two_more (16 * k) (16 * k + 14 + 1) ≡ true) × (leads_to σ plane_end (16 * k + 15) (16 * k + 15 + 1) ≡ true)
    both σ p =
        let s = within_stood doc i l h r n e w in
        let k = get_or doc i 0 / 16 in
        and_of (leads_to σ two_more (16 * k) (16 * k + 14 + 1)) (leads_to σ plane_end (16 * k + 15) (16 * k + 15 + 1)) (p.each (get_or doc i 0) s.low s.high)

    pub planed_end : get_or doc i 0 % 16 ≡ 15 → Rest doc n plane_end q → Planed doc i l h q
    unfolding Planed
    planed_end x rest σ p =
        let s = within_stood doc i l h r n e w in
        let k = get_or doc i 0 / 16 in
        stood_on σ plane_end (16 * k + 15) (16 * k + 15) (both σ p).1 p.inside doc i n (record { there = s.there; low = omega arith; high = omega arith; next = s.next }) refl q rest

    pub planed_on : (get_or doc i 0 % 16 ≡ 15 → ⊥) → Rest doc n two_more q → Planed doc i l h q
    unfolding Planed
    planed_on x rest σ p =
        let s = within_stood doc i l h r n e w in
        let k = get_or doc i 0 / 16 in
        stood_on σ two_more (16 * k) (16 * k + 14) (both σ p).0 p.inside doc i n (record { there = s.there; low = omega arith; high = omega arith; next = s.next }) refl q rest

pub planed_rest : (σ : At) (l h : ℕ) → Planes σ l h → (doc : List ℕ) (i : ℕ) (q : Option ℕ) → Planed doc i l h q → Rest doc i σ q
unfolding Planed
planed_rest σ l h p doc i q z = z σ p

module _ (b : ℕ) where
  one_of : (σ : At) (k : ℕ) → 16 * k ≤ b → b < 16 * k + 16 → sixteen σ k ≡ true → sixteen σ (b / 16) ≡ true
  one_of σ k x y z = let e : b / 16 ≡ k = omega arith in rw e z

pub planes_f0 : Planes after_f0 144 191
unfolding says through
planes_f0 = record { inside = refl; each = λ b x y. by b x y (dec_le b 159) (dec_le b 175) }
  where
    by : (b : ℕ) → 144 ≤ b → b ≤ 191 → Dec (b ≤ 159) → Dec (b ≤ 175) → sixteen after_f0 (b / 16) ≡ true
    by b x y (yes z) w = one_of b after_f0 9 (omega arith) (omega arith) refl
    by b x y (no z) (yes w) = one_of b after_f0 10 (omega arith) (omega arith) refl
    by b x y (no z) (no w) = one_of b after_f0 11 (omega arith) (omega arith) refl

pub planes_f1 : Planes after_f1 128 191
unfolding says through
planes_f1 = record { inside = refl; each = λ b x y. by b x y (dec_le b 143) (dec_le b 159) (dec_le b 175) }
  where
    by : (b : ℕ) → 128 ≤ b → b ≤ 191 → Dec (b ≤ 143) → Dec (b ≤ 159) → Dec (b ≤ 175) → sixteen after_f1 (b / 16) ≡ true
    by b x y (yes u) z w = one_of b after_f1 8 (omega arith) (omega arith) refl
    by b x y (no u) (yes z) w = one_of b after_f1 9 (omega arith) (omega arith) refl
    by b x y (no u) (no z) (yes w) = one_of b after_f1 10 (omega arith) (omega arith) refl
    by b x y (no u) (no z) (no w) = one_of b after_f1 11 (omega arith) (omega arith) refl

pub planes_f4 : Planes after_f4 128 143
unfolding says through
planes_f4 = record { inside = refl; each = λ b x y. one_of b after_f4 8 (omega arith) (omega arith) refl }
