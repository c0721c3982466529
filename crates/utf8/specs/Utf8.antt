-- The allowed characters in UTF-8 as a machine by a table of byte classes, and that its reader is exact for its runs. Which are allowed below 128 is given:
-- `plain`. Assumes nothing.
use Rattle.std.specs.Prelude.{◌≡◌, refl, List, [], ◌∷◌, ◌++◌, Bool, true, false, ℕ, min}
use Rattle.std.proofs.Common.{ap, arith}
use Rattle.exact.specs.Class.{Starts, pick, clash, Class, is, left, right, ◌to◌}
use Rattle.exact.specs.Out.{Reader}
use Rattle.exact.specs.Lang.{Lang, bar, within_none, weaken}
use Rattle.exact.specs.Ll.{Shape, Begun, Ll, by_first}
use Rattle.exact.specs.Run.{Run, steps, run_r, Laws, run_firm, lives, run_exact, stay, ahead}

-- where in a character: at its start, at its end, nowhere; or what may come
pub data At : Type 0 where
  start : At
  done : At
  dead : At
  one_more : At
  two_more : At
  after_c2 : At
  after_e0 : At
  after_ed : At
  after_ef : At
  after_ef_b7 : At
  after_f0 : At
  after_f1 : At
  after_f4 : At
  plane_end : At
  last : At

pub data Arrow : Type 0 where
  ◌to-be◌ : Class → At → Arrow

infix 40 ◌to-be◌
-- the first bytes of 128 and more
abbrev pub leads : List Arrow
leads =
    ((194 to 194) ∷ [] to-be after_c2)
    ∷ ((195 to 223) ∷ [] to-be one_more)
    ∷ ((224 to 224) ∷ [] to-be after_e0)
    ∷ ((225 to 236) ∷ (238 to 238) ∷ [] to-be two_more)
    ∷ ((237 to 237) ∷ [] to-be after_ed)
    ∷ ((239 to 239) ∷ [] to-be after_ef)
    ∷ ((240 to 240) ∷ [] to-be after_f0)
    ∷ ((241 to 241) ∷ (242 to 242) ∷ (243 to 243) ∷ [] to-be after_f1)
    ∷ ((244 to 244) ∷ [] to-be after_f4)
    ∷ []

-- what a class has below 128
abbrev pub below : Class → Class
below [] = []
below ((l to h) ∷ c) = (l to min h 127) ∷ below c

abbrev pub table : Class → At → List Arrow
table plain start = leads ++ (below plain to-be done) ∷ []
table plain done = []
table plain dead = []
table plain one_more = ((128 to 191) ∷ [] to-be done) ∷ []
table plain two_more = ((128 to 191) ∷ [] to-be one_more) ∷ []
table plain after_c2 = ((160 to 191) ∷ [] to-be done) ∷ []
table plain after_e0 = ((160 to 191) ∷ [] to-be one_more) ∷ []
table plain after_ed = ((128 to 159) ∷ [] to-be one_more) ∷ []
table plain after_ef = ((128 to 182) ∷ (184 to 190) ∷ [] to-be one_more) ∷ ((183 to 183) ∷ [] to-be after_ef_b7) ∷ ((191 to 191) ∷ [] to-be last) ∷ []
table plain after_ef_b7 = ((128 to 143) ∷ (176 to 191) ∷ [] to-be done) ∷ []
table plain after_f0 = ((144 to 158) ∷ (160 to 174) ∷ (176 to 190) ∷ [] to-be two_more) ∷ ((159 to 159) ∷ (175 to 175) ∷ (191 to 191) ∷ [] to-be plane_end) ∷ []
table plain after_f1 =
    ((128 to 142) ∷ (144 to 158) ∷ (160 to 174) ∷ (176 to 190) ∷ [] to-be two_more) ∷ ((143 to 143) ∷ (159 to 159) ∷ (175 to 175) ∷ (191 to 191) ∷ [] to-be plane_end) ∷ []
table plain after_f4 = ((128 to 142) ∷ [] to-be two_more) ∷ ((143 to 143) ∷ [] to-be plane_end) ∷ []
table plain plane_end = ((128 to 190) ∷ [] to-be one_more) ∷ ((191 to 191) ∷ [] to-be last) ∷ []
table plain last = ((128 to 189) ∷ [] to-be done) ∷ []

abbrev pub follow : List Arrow → ℕ → At
follow [] b = dead
follow ((c to-be σ) ∷ rows) b = pick (is c b) σ (follow rows b)

-- a state is at a character's end, or nowhere, or in a character
pub data Kind : Type 0 where
  char_end : Kind
  char_lost : Kind
  char_inside : Kind

abbrev pub kind : At → Kind
kind start = char_inside
kind done = char_end
kind dead = char_lost
kind one_more = char_inside
kind two_more = char_inside
kind after_c2 = char_inside
kind after_e0 = char_inside
kind after_ed = char_inside
kind after_ef = char_inside
kind after_ef_b7 = char_inside
kind after_f0 = char_inside
kind after_f1 = char_inside
kind after_f4 = char_inside
kind plane_end = char_inside
kind last = char_inside

abbrev pub lively : Kind → Bool
lively char_end = true
lively char_lost = false
lively char_inside = true

abbrev pub finished : Kind → Bool
finished char_end = true
finished char_lost = false
finished char_inside = false

abbrev pub live : At → Bool
live σ = lively (kind σ)

abbrev pub full : At → Bool
full σ = finished (kind σ)

abbrev pub Classes : List Arrow → Class
Classes [] = []
Classes ((c to-be σ) ∷ rows) = c ++ Classes rows

-- what is followed is in the table
pub found : (rows : List Arrow) (b : ℕ) → live (follow rows b) ≡ true → is (Classes rows) b ≡ true
found [] b e = absurd (clash e refl)
found ((c to-be σ) ∷ rows) b e = by (is c b) refl e (found rows b)
  where
    by : (x : Bool) → is c b ≡ x → live (pick x σ (follow rows b)) ≡ true → (live (follow rows b) ≡ true → is (Classes rows) b ≡ true) → is (c ++ Classes rows) b ≡ true
    by true x e ih = left c (Classes rows) b x
    by false x e ih = right c (Classes rows) b (ih e)

module _ (plain : Class) where
  abbrev pub next : At → ℕ → At
  next σ b = follow (table plain σ) b

  abbrev pub Spelt : Lang (List ℕ)
  Spelt = Run next full live start

  abbrev pub char_r : Reader (List ℕ)
  char_r = run_r next full live start

  -- nothing goes on from the end, or from nowhere
  pub stuck : (σ : At) (b : ℕ) → live (next σ b) ≡ true → kind σ ≡ char_inside
  stuck start b e = refl
  stuck done b e = absurd (clash e refl)
  stuck dead b e = absurd (clash e refl)
  stuck one_more b e = refl
  stuck two_more b e = refl
  stuck after_c2 b e = refl
  stuck after_e0 b e = refl
  stuck after_ed b e = refl
  stuck after_ef b e = refl
  stuck after_ef_b7 b e = refl
  stuck after_f0 b e = refl
  stuck after_f1 b e = refl
  stuck after_f4 b e = refl
  stuck plane_end b e = refl
  stuck last b e = refl

  pub laws : Laws next full live (λ t. ⊥)
  laws =
      record {
        word = word;
        full_lives = full_lives;
        lives_back = λ σ b e. ap lively (stuck σ b e);
        greedy = λ σ b t e f. clash e (ap finished (stuck σ b f));
      }
    where
      word : (σ : At) → live σ ≡ true → (w : List ℕ) × (full (steps next full live σ w) ≡ true)
      word start e = (194 ∷ 160 ∷ [], refl)
      word done e = ([], refl)
      word dead e = absurd (clash e refl)
      word one_more e = (128 ∷ [], refl)
      word two_more e = (128 ∷ 128 ∷ [], refl)
      word after_c2 e = (160 ∷ [], refl)
      word after_e0 e = (160 ∷ 128 ∷ [], refl)
      word after_ed e = (128 ∷ 128 ∷ [], refl)
      word after_ef e = (128 ∷ 128 ∷ [], refl)
      word after_ef_b7 e = (128 ∷ [], refl)
      word after_f0 e = (144 ∷ 128 ∷ 128 ∷ [], refl)
      word after_f1 e = (128 ∷ 128 ∷ 128 ∷ [], refl)
      word after_f4 e = (128 ∷ 128 ∷ 128 ∷ [], refl)
      word plane_end e = (128 ∷ 128 ∷ [], refl)
      word last e = (128 ∷ [], refl)

      full_lives : (σ : At) → full σ ≡ true → live σ ≡ true
      full_lives σ = by (kind σ)
        where
          by : (k : Kind) → finished k ≡ true → lively k ≡ true
          by char_end e = refl
          by char_lost e = e
          by char_inside e = refl

  abbrev pub char_s : Shape
  char_s = record { null = false; first = Classes (table plain start); follow = [] }

  pub spelt_ll : Ll char_s Spelt char_r
  spelt_ll =
      record {
        exact = weaken 1 (bar (Starts (is []))) (omega arith) (within_none _) (run_exact next full live laws start refl);
        begun = λ at s v at' t x. go x;
        firm = run_firm next full live start;
      }
    where
      go : {at : ℕ} {s w : List ℕ} {at' : ℕ} {t : List ℕ} → Run next full live start at s w at' t → Begun char_s s t
      go (stay e) = absurd (clash e refl)
      go (ahead {b = b} x) = by_first (found (table plain start) b (lives next full live laws x))
