-- THE HASH OF A KEY in its object, over the first bytes of its text: equal keys have equal hashes. It is worked out a byte at a time. Assumes nothing.
use Rattle.std.specs.Prelude.{◌≡◌, List, [], ◌∷◌, Bool, true, false, ℕ, zero, suc, ◌+◌, ◌-◌, ◌*◌, ◌/◌, ◌%◌, ◌≤◌, ◌<◌, length, take, replicate}
use Rattle.std.proofs.Math.Path.{refl}
use Rattle.std.proofs.Common.{sym, ap, ◌∙◌, mod-lt, mul-le-mul_right, rules}
use native.Mathlib.Omega.{arith}
use Rattle.std.proofs.Math.Seq.{take-nil}
use Rattle.language.specs.Strings.{keybyte}
use Rattle.language.specs.Answered.{limit}
use Rattle.exact.specs.Class.{is}
use Rattle.exact.specs.Place.{peek}
use Rattle.characters.specs.declared.Reading.{Reading}
use Rattle.characters.specs.Reads.{Took}
use Rattle.std.specs.declared.option.Option.TheVariants.{None, Some}
use Rattle.characters.specs.Reads.{ByteRead, byte_inside, byte_there, byte_next, byte_over}
use Rattle.spelt.specs.declared.spelling.Spelling.{Spelling}
use Rattle.spelt.specs.Spelling.{Given}
use Rattle.spelt.specs.Texts.{spelled}
use Rattle.spelt.specs.Spelling.{Spellable, Gave, Nexts, Begins, weight, rest_tail, begin_bare, step}
use Rattle.spelt.specs.Standing.{further, Spells, Standing, standing_next, standing_low}
use Rattle.spelt.specs.Left.{key_more, key_over}
use Rattle.spelt.specs.Reading.{Keyed, keyed_low, Reads, reads_able, reads_first, reads_end, gave, others, reads_is, reads_on, Bare, bare_of, bare}

-- by a factor, from the object's row on. The upper half of a word is added to the lower, since sums of products alone have texts that are equal for every odd factor
unfoldable pub turn : ℕ → ℕ → List ℕ → ℕ
turn f h [] = h
turn f h (b ∷ bs) = turn f ((f * h + h / 65536 + b) % 4294967296) bs

-- long keys are few, so their first bytes are enough
unfoldable pub hash_of : ℕ → ℕ → List ℕ → ℕ
hash_of f q s = turn f q (take 4096 s)

pub record HashOf (doc : List ℕ) (at q f r : ℕ) : Type 0 where
  pub is : r ≡ hash_of f q (spelled doc at)
  pub low : r < 4294967296

-- h is that of the bytes passed, and so many are left to pass
pub record Hashing (doc : List ℕ) (at q f : ℕ) (room : List ℕ) (p : Spelling) (h left : ℕ) : Type 0 where
  pub text : List ℕ
  pub reads : Reads doc room p text
  pub turns : turn f h (take left text) ≡ hash_of f q (spelled doc at)
  pub low : h < 4294967296

-- the product of two words and a byte are a number of 64 bits
product : (f h : ℕ) → f < 4294967296 → h < 4294967296 → f * h ≤ 18446744065119617025
product f h l m = let p : f * h ≤ 4294967295 * h = mul-le-mul_right h (omega arith) in omega arith

pub product_low : (f h : ℕ) → f < 4294967296 → h < 4294967296 → f * h < 18446744073709551616
product_low f h l m = let p = product f h l m in omega arith

pub product_half : (f h : ℕ) → f < 4294967296 → h < 4294967296 → f * h + h / 65536 < 18446744073709551616
product_half f h l m = let p = product f h l m in omega arith

pub product_more : (f h b : ℕ) → f < 4294967296 → h < 4294967296 → b < 256 → f * h + h / 65536 + b < 18446744073709551616
product_more f h b l m n = let p = product f h l m in omega arith

-- one byte more
turn_more : (f h b : ℕ) (s : List ℕ) (left : ℕ) → 0 < left → turn f h (take left (b ∷ s)) ≡ turn f ((f * h + h / 65536 + b) % 4294967296) (take (left - 1) s)
unfolding turn
turn_more f h b s zero l = absurd (omega arith)
turn_more f h b s (suc n) l = let e : suc n - 1 ≡ n = omega arith in rw e refl

module _ (doc : List ℕ) (at q f : ℕ) where
  pub hashing_first : (p : Spelling) → Keyed doc at → q < 4294967296 → Begins doc at p → Hashing doc at q f (replicate 8 0) p q 4096
  unfolding hash_of
  hashing_first p k l h = record { text = spelled doc at; reads = reads_first doc at p k h; turns = refl; low = l }

  module _ (room : List ℕ) (p : Spelling) (h left : ℕ) (x : Hashing doc at q f room p h left) where
    pub hashing_able : Spellable doc room p
    hashing_able = reads_able doc room p x.text x.reads

    pub hashing_low : h < 4294967296
    hashing_low = x.low

    pub hashing_full : left ≤ 0 → HashOf doc at q f h
    unfolding turn
    hashing_full l = let e : left ≡ 0 = omega arith in record { is = rw e at x.turns; low = x.low }

    module _ (room' : List ℕ) (g : Given) (y : Nexts doc room p room' g) where
      pub hashing_done : g ≡ None → HashOf doc at q f h
      unfolding turn
      hashing_done e =
          let z = reads_end doc room p x.text x.reads room' g y e in
          let u : turn f h (take left []) ≡ hash_of f q (spelled doc at) = rw z at x.turns in
          record { is = rw (take-nil {A = ℕ} left) at u; low = x.low }

      module _ (b : ℕ) (n : Spelling) (e : g ≡ Some (b, n)) where
        pub hashing_less : weight doc n < weight doc p
        hashing_less = (gave doc room p x.text x.reads room' g y b n e).less

        pub hashing_more : length room' ≡ length room → 0 < left → (h' : ℕ) → h' ≡ (f * h + h / 65536 + b) % 4294967296 → Hashing doc at q f room' n h' (left - 1)
        hashing_more l m h' v =
            let z = reads_is doc room p x.text x.reads room' g y b n e in
            let o = others doc room p x.text x.reads room' g y b n e in
            rw v
            (record {
              text = o;
              reads = reads_on doc room p x.text x.reads room' g y b n e l;
              turns = sym (turn_more f h b o left m) ∙ (rw z at x.turns);
              low = mod-lt (f * h + h / 65536 + b) (omega arith);
            })

    pub hashing_spells : Spells doc p
    hashing_spells = record { room = room; able = hashing_able }

    -- a byte that stands as it is
    module _ (v : ℕ) (y : Standing doc p v) (l : v < 256) where
      pub hashing_further : p.at < limit
      hashing_further = standing_low doc p v y l hashing_spells

      pub hashing_stood : 0 < left → (h' : ℕ) (n : Spelling) → h' ≡ (f * h + h / 65536 + v) % 4294967296 → n ≡ further p → Hashing doc at q f room n h' (left - 1)
      hashing_stood m h' n e i = rw i (hashing_more room (Some (v, further p)) (standing_next doc p v y l room) v (further p) refl refl m h' e)

-- so many bytes are passed
pub counted_down : (doc : List ℕ) (at q f : ℕ) (room : List ℕ) (p : Spelling) (h i : ℕ) → Hashing doc at q f room p h (4096 - i - 1) → Hashing doc at q f room p h (4096 - (i + 1))
counted_down doc at q f room p h i x = let z : 4096 - i - 1 ≡ 4096 - (i + 1) = omega arith in rw z at x

pub ruleset hashing = (counted_down, keyed_low, hashing_first, hashing_able, hashing_low, hashing_full, hashing_done, hashing_more, hashing_spells, hashing_further, hashing_stood, rules)

-- ---- of a bare key, as it stands

abbrev pub BareHashing : List ℕ → ℕ → ℕ → ℕ → ℕ → ℕ → ℕ → Type 0
BareHashing doc at q f a h left = Hashing doc at q f (replicate 8 0) (bare a) h left

module _ (doc : List ℕ) (at q f : ℕ) where
  pub bare_first : Keyed doc at → q < 4294967296 → Bare doc at → BareHashing doc at q f at q 4096
  bare_first k l b = hashing_first doc at q f (bare at) k l (begin_bare doc at (peek doc at) refl b.no_double b.no_single)

  module _ (a h left : ℕ) (x : BareHashing doc at q f a h left) where
    ended : is keybyte (peek doc a) ≡ false → HashOf doc at q f h
    unfolding Nexts
    ended e =
        hashing_done doc at q f (replicate 8 0) (bare a) h left x (replicate 8 0) None
        (λ s r. key_over doc 0 a refl s (rest_tail doc (replicate 8 0) (bare a) s (omega arith) r) e) refl

    pub bare_full : left ≤ 0 → HashOf doc at q f h
    bare_full = hashing_full doc at q f (replicate 8 0) (bare a) h left x

    pub bare_low : h < 4294967296
    bare_low = x.low

    module _ (t : Took) (g : ByteRead doc a t) where
      pub bare_over : t ≡ None → HashOf doc at q f h
      bare_over e = let z = byte_over doc a t g e in ended (rw z refl)

      module _ (b : ℕ) (n : Reading) (e : t ≡ Some (b, n)) where
        module _ (y : Bool) (k : y ≡ is keybyte b) where
          there : is keybyte (peek doc a) ≡ y
          there = ap (is keybyte) (sym (byte_there doc a t g b n e)) ∙ sym k

          pub bare_ended : y ≡ false → HashOf doc at q f h
          bare_ended v = ended (there ∙ v)

          pub bare_more : y ≡ true → 0 < left → (h' : ℕ) → h' ≡ (f * h + h / 65536 + b) % 4294967296 → BareHashing doc at q f n.at h' (left - 1)
          unfolding Nexts
          bare_more v m h' w =
              let z : Gave doc (replicate 8 0) (bare a) (replicate 8 0) b (bare (a + 1)) =
              rw (byte_there doc a t g b n e)
              (step doc (replicate 8 0) (bare a) (peek doc a) (byte_inside doc a t g b n e) (λ s r. key_more doc 0 a refl s (rest_tail doc (replicate 8 0) (bare a) s (omega arith) r) (there ∙ v))) in
              rw (byte_next doc a t g b n e)
              (hashing_more doc at q f (replicate 8 0) (bare a) h left x (replicate 8 0) (Some (b, bare (a + 1))) z b (bare (a + 1)) refl refl m h' w)

pub ruleset baring = (counted_down, bare_first, bare_full, bare_low, bare_over, bare_ended, bare_more, rules)

-- ---- of either

pub ruleset choosing = (keyed_low, bare_of, rules)
