-- A SIEVE OF KEYS: for each depth a list of the keys of the object last met there, and two runs of bits; whatever key comes twice has its bit set in the second run. Assumes nothing.
use Rattle.std.specs.Prelude.{◌≡◌, List, ◌∷◌, ◌⊎◌, ℕ, ◌+◌, ◌*◌, ◌/◌, ◌%◌, ◌≤◌, ◌<◌, length, get_or}
use Rattle.std.proofs.Common.{sym, ◌∙◌, inl, inr, mod-lt, arith}
use Rattle.sieve.specs.Bits.{On, on_same}

-- ---- where the words stand

abbrev pub hits : ℕ
hits = 6566

abbrev pub top : ℕ
top = 6567

abbrev pub broken : ℕ
broken = 6568

-- the list of a depth: its object's row and one more, how many keys it has, and their hashes
abbrev pub list_at : ℕ → ℕ
list_at d = 6572 + 18 * d

abbrev pub lists : ℕ
lists = 34

abbrev pub seen : ℕ
seen = 7184

abbrev pub again : ℕ
again = 11280

abbrev pub filter : ℕ
filter = 15376

abbrev pub large : ℕ
large = 19472

-- the class of a hash
abbrev pub class_of : ℕ → ℕ
class_of h = (h + h / 32768) % 131072

pub class_low : (h : ℕ) → class_of h / 32 < 4096
class_low h = let l : class_of h < 131072 = mod-lt (h + h / 32768) (omega arith) in omega arith

-- ---- the keys that have come: the row of an object, and a hash

pub data Mark : Type 0 where
  mark : ℕ → ℕ → Mark

pub data Has (q h : ℕ) : List Mark → Type 0 where
  has_here : {zs : List Mark} → Has q h (mark q h ∷ zs)
  has_later : {z : Mark} {zs : List Mark} → Has q h zs → Has q h (z ∷ zs)

-- .. twice
pub data Double (q h : ℕ) : List Mark → Type 0 where
  double_here : {zs : List Mark} → Has q h zs → Double q h (mark q h ∷ zs)
  double_later : {z : Mark} {zs : List Mark} → Double q h zs → Double q h (z ∷ zs)

-- ---- what the words say of them

-- a hash in the list of a depth
pub record Near (S : List ℕ) (d h : ℕ) : Type 0 where
  pub number : ℕ
  pub low : number < get_or S (list_at d + 1) 0
  pub is : get_or S (list_at d + 2 + number) 0 ≡ h

abbrev pub Noted : List ℕ → ℕ → ℕ → Type 0
Noted S d h = Near S d h ⊎ On S seen (class_of h)

pub record Whole (zs : List Mark) (S : List ℕ) : Type 0 where
  pub low : (q h : ℕ) → Has q h zs → q < get_or S top 0
  pub below : (d : ℕ) → d < lists → get_or S (list_at d) 0 ≤ get_or S top 0
  pub apart : (d e : ℕ) → d < lists → e < lists → get_or S (list_at d) 0 ≡ get_or S (list_at e) 0 → 0 < get_or S (list_at d) 0 → d ≡ e
  pub few : (d : ℕ) → d < lists → get_or S (list_at d + 1) 0 ≤ 16
  pub noted : (d q h : ℕ) → d < lists → Has q h zs → get_or S (list_at d) 0 ≡ q + 1 → Noted S d h

-- THE SIEVE: what has come twice is found again; and, as long as no object was lost, the lists and the first bits have all keys of their objects, or, without lists, the first bits have all keys
pub record Sieved (zs : List Mark) (S : List ℕ) : Type 0 where
  pub found : (q h : ℕ) → Double q h zs → On S again (class_of h) × (0 < get_or S hits 0)
  pub whole : get_or S broken 0 ≡ 0 → Whole zs S
  pub plain : get_or S broken 0 ≡ 2 → (q h : ℕ) → Has q h zs → On S seen (class_of h)

-- no other words than those of the sieve are touched
pub record Framed (S S' : List ℕ) : Type 0 where
  pub long : length S' ≡ length S
  pub below : (i : ℕ) → i < hits → get_or S' i 0 ≡ get_or S i 0
  pub above : (i : ℕ) → filter ≤ i → get_or S' i 0 ≡ get_or S i 0

-- A STEP: one key more
pub record Steps (S : List ℕ) (q h : ℕ) (S' : List ℕ) : Type 0 where
  pub framed : Framed S S'
  pub sieved : (zs : List Mark) → Sieved zs S → Sieved (mark q h ∷ zs) S'

-- ---- a key found again: its bit is set, and counted

-- nothing but bits of the second run and their count
pub record Flags (S : List ℕ) (c : ℕ) (S' : List ℕ) : Type 0 where
  pub long : length S' ≡ length S
  pub on : On S' again c
  pub some : 0 < get_or S' hits 0
  pub keeps : (d : ℕ) → On S again d → On S' again d
  pub below : (i : ℕ) → i < hits → get_or S' i 0 ≡ get_or S i 0
  pub between : (i : ℕ) → hits < i → i < again → get_or S' i 0 ≡ get_or S i 0
  pub above : (i : ℕ) → filter ≤ i → get_or S' i 0 ≡ get_or S i 0

pub flag_framed : {S S' : List ℕ} {c : ℕ} → Flags S c S' → Framed S S'
flag_framed x = record { long = x.long; below = x.below; above = x.above }

-- the first run's bits are where they were
pub flag_seen : {S S' : List ℕ} {c : ℕ} → Flags S c S' → (h : ℕ) → On S seen (class_of h) → On S' seen (class_of h)
flag_seen {S} {S'} x h o = let l = class_low h in on_same S S' seen (class_of h) (x.between (seen + class_of h / 32) (omega arith) (omega arith)) o

pub flag_noted : {S S' : List ℕ} {c : ℕ} → Flags S c S' → (d h : ℕ) → d < lists → get_or S (list_at d + 1) 0 ≤ 16 → Noted S d h → Noted S' d h
flag_noted {S} {S'} x d h l f (inl n) =
    inl
    (record {
      number = n.number;
      low = (let e = x.between (list_at d + 1) (omega arith) (omega arith) in omega (arith, n.low));
      is = x.between (list_at d + 2 + n.number) (omega arith) (omega (arith, n.low)) ∙ n.is;
    })
flag_noted x d h l f (inr o) = inr (flag_seen x h o)

-- whatever is whole stays so
pub flag_whole : {zs : List Mark} {S S' : List ℕ} {c : ℕ} → Flags S c S' → Whole zs S → Whole zs S'
flag_whole {S = S} {S'} x w =
    let t = x.between top (omega arith) (omega arith) in
    let o : (d : ℕ) → d < lists → get_or S' (list_at d) 0 ≡ get_or S (list_at d) 0 = λ d l. x.between (list_at d) (omega arith) (omega arith) in
    let n : (d : ℕ) → d < lists → get_or S' (list_at d + 1) 0 ≡ get_or S (list_at d + 1) 0 = λ d l. x.between (list_at d + 1) (omega arith) (omega arith) in
    record {
      low = λ q h i. omega (arith, w.low q h i);
      below = λ d l. omega (arith, o d l, w.below d l);
      apart = λ d e l m f g. w.apart d e l m (sym (o d l) ∙ (f ∙ o e m)) (omega (arith, o d l));
      few = λ d l. omega (arith, n d l, w.few d l);
      noted = λ d q h l i e. flag_noted x d h l (w.few d l) (w.noted d q h l i (sym (o d l) ∙ e));
    }

-- a key found again, whatever is known of its object
pub flag_found : (zs : List Mark) (S S' : List ℕ) (q h : ℕ) → Flags S (class_of h) S' → ((p g : ℕ) → Double p g zs → On S again (class_of g) × (0 < get_or S hits 0))
    → (p g : ℕ) → Double p g (mark q h ∷ zs) → On S' again (class_of g) × (0 < get_or S' hits 0)
flag_found zs S S' q h x f p g (double_here i) = (x.on, x.some)
flag_found zs S S' q h x f p g (double_later i) = (x.keeps (class_of g) (f p g i).0, x.some)
