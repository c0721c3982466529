-- Which reader the first byte chooses: of a scalar, of a value inside brackets, and of a value on a line.
use mathlib.Core.Path.{◌≡◌, refl, sym, ap, subst, ◌∙◌}
use mathlib.Core.List.{List, [], ◌∷◌, ◌++◌}
use mathlib.Core.Logic.{◌⊎◌, inl, inr, ⊎_elim}
use mathlib.Core.Bool.{Bool, true, false}
use Prim.Native.Nat.{ℕ, zero, suc, ◌-◌, ◌≤◌, ◌<◌}
use native.Mathlib.Omega.{arith}
use lib.ListN.{drop}
use borrow.Author.Rules.{rules}
use Rattle.language.specs.Tree.{Tree}
use Rattle.exact.specs.Class.{pick, or, clash, Class, ◌to◌, within, is, only, only_no, none, left, is_neither}
use Rattle.exact.specs.Out.{Out, Reader, bad}
use Rattle.exact.specs.Comb.{alt_r}
use Rattle.exact.specs.More.{Shuts, ll_shuts}
use Rattle.exact.specs.Place.{peek, There, there, byte_there, none_there, alt_peek}
use Rattle.rooms.specs.declared.Cursor.{Cursor}
use Rattle.rooms.specs.Contract.{Ans}
use Rattle.std.specs.declared.result.Result.TheVariants.{Err, Ok}
use Rattle.rooms.specs.Contract.{Far}
use Rattle.rooms.specs.Contract.{Answers, Reaches}
use Rattle.rooms.specs.Laws
use Rattle.numbers.specs.Plain.{plain_first, plain_r}
use Rattle.numbers.specs.Opening.{plain_shuts}
use Rattle.strings.specs.Bytes.{inline_bytes_r}
use Rattle.strings.specs.Quoted.{string_s, string_r}
use Rattle.inline.specs.Lists.{scalar_first, openings, inline_array_r, inline_object_r}
use Rattle.inline.specs.Values.{marks, quotes_s, quotes_r, quotes_ll, scalar_r, container_r, value_r, container_ll, value_ll}
use Rattle.inline.specs.Deeper.{scalar_shuts}
use Rattle.inline.specs.Brackets.{bracket_r, array_bracket, object_bracket}

-- ---- a byte that is neither of two, or none of three

or_none : (x : Bool) → or x false ≡ false → x ≡ false
or_none true e = e
or_none false e = e

no_range : (a x : ℕ) → (x ≡ a → ⊥) → within (a to a) x ≡ false
no_range a x h = or_none (within (a to a) x) (only_no a x h)

none_of_two : (a b x : ℕ) → (x ≡ a → ⊥) → (x ≡ b → ⊥) → is ((a to a) ∷ (b to b) ∷ []) x ≡ false
none_of_two a b x h k = rw (no_range a x h, no_range b x k) refl

none_of_three : (a b c x : ℕ) → (x ≡ a → ⊥) → (x ≡ b → ⊥) → (x ≡ c → ⊥) → is ((a to a) ∷ (b to b) ∷ (c to c) ∷ []) x ≡ false
none_of_three a b c x h k l = rw (no_range a x h, no_range b x k, no_range c x l) refl

-- a byte is one of these marks, or none
pub marked_yes : (b : ℕ) → (b ≡ 34) ⊎ ((b ≡ 39) ⊎ ((b ≡ 60) ⊎ ((b ≡ 91) ⊎ (b ≡ 123)))) → true ≡ is marks b
marked_yes b (inl e) = rw e refl
marked_yes b (inr (inl e)) = rw e refl
marked_yes b (inr (inr (inl e))) = rw e refl
marked_yes b (inr (inr (inr (inl e)))) = rw e refl
marked_yes b (inr (inr (inr (inr e)))) = rw e refl

pub marked_no : (b : ℕ) → ((b ≡ 34) ⊎ ((b ≡ 39) ⊎ ((b ≡ 60) ⊎ ((b ≡ 91) ⊎ (b ≡ 123)))) → ⊥) → false ≡ is marks b
marked_no b h =
    rw (no_range 34 b (λ e. h (inl e)), no_range 39 b (λ e. h (inr (inl e))), no_range 60 b (λ e. h (inr (inr (inl e)))), no_range 91 b (λ e. h (inr (inr (inr (inl e))))), no_range 123 b (λ e. h (inr (inr (inr (inr e))))))
    refl

-- ---- what begins with no byte of a reader is refused at once

module _ {X : Type 0} (doc : List ℕ) (at : ℕ) {c : Class} {r : Reader X} (s : Shuts c r) where
  shut_peek : is c (peek doc at) ≡ false → r at (drop at doc) ≡ bad at
  shut_peek e = go (there doc at)
    where
      go : There doc at → r at (drop at doc) ≡ bad at
      go (byte_there h) = rw h (s.not at (peek doc at) (drop (suc at) doc) e)
      go (none_there h k) = rw h (s.at_none at)

-- a choice of two: where the byte is none of the second's, the first reads it, or both refuse it
first_reads : {X : Type 0} (doc : List ℕ) (at : ℕ) (c d : Class) (r q : Reader X) → is c 256 ≡ false → Shuts c r → Shuts d q → is d (peek doc at) ≡ false
    → alt_r (is c) r q at (drop at doc) ≡ r at (drop at doc)
first_reads doc at c d r q n x y e = alt_peek doc at c n r q ∙ go (is c (peek doc at)) refl
  where
    go : (b : Bool) → is c (peek doc at) ≡ b → pick b (r at (drop at doc)) (q at (drop at doc)) ≡ r at (drop at doc)
    go true z = refl
    go false z = shut_peek doc at y e ∙ sym (shut_peek doc at x z)

-- where the byte is none of the first's, the second reads it
second_reads : {X : Type 0} (doc : List ℕ) (at : ℕ) (c : Class) (r q : Reader X) → is c 256 ≡ false → is c (peek doc at) ≡ false → alt_r (is c) r q at (drop at doc) ≡ q at (drop at doc)
second_reads doc at c r q n e = alt_peek doc at c n r q ∙ rw e refl

-- ---- THE CHOICES by the byte b at a place: what is shown of an answer of the reader chosen holds of the answer of the choice

module _ (P : Out Tree → Type 0) (doc : List ℕ) (at b : ℕ) (h : b ≡ peek doc at) where
  abbrev pub Via : Reader Tree → Type 0
  Via r = P (r at (drop at doc))

  -- one reader in place of another
  via : {o o' : Out Tree} → o ≡ o' → P o' → P o
  via e x = subst P (sym e) x

  seen : (x : ℕ) (d : Class) → b ≡ x → is d (peek doc at) ≡ is d x
  seen x d e = ap (is d) (sym h ∙ e)

  string_reads : is plain_first (peek doc at) ≡ false → is string_s.first (peek doc at) ≡ true → Via string_r → Via (scalar_r false)
  unfolding scalar_r quotes_r
  string_reads e f x =
      via (second_reads doc at plain_first (plain_r false) quotes_r refl e ∙ (alt_peek doc at string_s.first refl string_r inline_bytes_r ∙ rw f refl)) x

  pub chosen_string : (b ≡ 34) ⊎ (b ≡ 39) → Via string_r → Via (scalar_r false)
  chosen_string (inl e) x = string_reads (seen 34 plain_first e) (seen 34 string_s.first e) x
  chosen_string (inr e) x = string_reads (seen 39 plain_first e) (seen 39 string_s.first e) x

  pub chosen_bytes : b ≡ 60 → Via inline_bytes_r → Via (scalar_r false)
  unfolding scalar_r quotes_r
  chosen_bytes e x =
      via (second_reads doc at plain_first (plain_r false) quotes_r refl (seen 60 plain_first e) ∙ second_reads doc at string_s.first string_r inline_bytes_r refl (seen 60 string_s.first e)) x

  pub chosen_plain : ((b ≡ 34) ⊎ (b ≡ 39) → ⊥) → (b ≡ 60 → ⊥) → Via (plain_r false) → Via (scalar_r false)
  unfolding scalar_r
  chosen_plain k m x =
      via
      (first_reads doc at plain_first quotes_s.first (plain_r false) quotes_r refl (plain_shuts false) (ll_shuts refl quotes_ll)
      (none_of_three 34 39 60 (peek doc at) (λ e. k (inl (h ∙ e))) (λ e. k (inr (h ∙ e))) (λ e. m (h ∙ e))))
      x

  -- a value
  module _ (k : ℕ) where
    pub chosen_scalar : (b ≡ 91 → ⊥) → (b ≡ 123 → ⊥) → Via (scalar_r false) → Via (value_r false k)
    unfolding value_r
    chosen_scalar l m x = go k
      where
        go : (k : ℕ) → Via (value_r false k)
        go zero = x
        go (suc k) =
            via
            (first_reads doc at scalar_first openings (scalar_r false) (container_r (value_r false k)) refl (scalar_shuts false) (ll_shuts refl (container_ll (value_ll k)))
            (none_of_two 91 123 (peek doc at) (λ e. l (h ∙ e)) (λ e. m (h ∙ e))))
            x

    pub chosen_digits : 48 ≤ b → b < 58 → Via (plain_r false) → Via (value_r false k)
    chosen_digits l m x =
        chosen_scalar (λ e. omega arith) (λ e. omega arith) (chosen_plain (λ e. ⊎_elim (λ z. omega arith) (λ z. omega arith) e) (λ e. omega arith) x)

    container_reads : (o : Bool) → (k ≡ 0 → ⊥) → is scalar_first (peek doc at) ≡ false
        → ((r : Reader Tree) → container_r r at (drop at doc) ≡ bracket_r o r at (drop at doc)) → Via (bracket_r o (value_r false (k - 1))) → Via (value_r false k)
    unfolding value_r
    container_reads o z e f x = go k z x
      where
        go : (k : ℕ) → (k ≡ 0 → ⊥) → Via (bracket_r o (value_r false (k - 1))) → Via (value_r false k)
        go zero z x = absurd (z refl)
        go (suc k) z x =
            let j : suc k - 1 ≡ k = omega arith in
            via (second_reads doc at scalar_first (scalar_r false) (container_r (value_r false k)) refl e ∙ f (value_r false k)) (rw j at x)

    pub chosen_array : b ≡ 91 → (k ≡ 0 → ⊥) → Via (bracket_r false (value_r false (k - 1))) → Via (value_r false k)
    unfolding container_r
    chosen_array e z x = container_reads false z (seen 91 scalar_first e) reads x
      where
        reads : (r : Reader Tree) → container_r r at (drop at doc) ≡ bracket_r false r at (drop at doc)
        reads r = alt_peek doc at (only 91) refl (inline_array_r r) (inline_object_r r) ∙ rw (seen 91 (only 91) e, array_bracket r) refl

    pub chosen_object : b ≡ 123 → (k ≡ 0 → ⊥) → Via (bracket_r true (value_r false (k - 1))) → Via (value_r false k)
    unfolding container_r
    chosen_object e z x = container_reads true z (seen 123 scalar_first e) reads x
      where
        reads : (r : Reader Tree) → container_r r at (drop at doc) ≡ bracket_r true r at (drop at doc)
        reads r = alt_peek doc at (only 91) refl (inline_array_r r) (inline_object_r r) ∙ rw (seen 123 (only 91) e, object_bracket r) refl

-- no container is allowed
pub chosen_deep : (P : Out Tree → Type 0) (doc : List ℕ) (at k : ℕ) → k ≡ 0 → P (scalar_r false at (drop at doc)) → P (value_r false k at (drop at doc))
unfolding value_r
chosen_deep P doc at k z x = rw z x

-- ---- .. as `search` takes them

module _ (doc : List ℕ) (c : Cursor) (p : ℕ) (a : Ans) (R R' T T' : List ℕ) where
  abbrev Answered : Out Tree → Type 0
  Answered o = Answers doc c p o a R R' T T'

  abbrev By : Reader Tree → Type 0
  By r = Answered (r c.at (drop c.at doc))

  pub via_deep : (k : ℕ) → k ≡ 0 → By (scalar_r false) → By (value_r false k)
  via_deep = chosen_deep Answered doc c.at

  module _ (b : ℕ) (h : b ≡ peek doc c.at) where
    pub via_string : (b ≡ 34) ⊎ (b ≡ 39) → By string_r → By (scalar_r false)
    via_string = chosen_string Answered doc c.at b h

    pub via_bytes : b ≡ 60 → By inline_bytes_r → By (scalar_r false)
    via_bytes = chosen_bytes Answered doc c.at b h

    pub via_plain : ((b ≡ 34) ⊎ (b ≡ 39) → ⊥) → (b ≡ 60 → ⊥) → By (plain_r false) → By (scalar_r false)
    via_plain = chosen_plain Answered doc c.at b h

    pub via_scalar : (k : ℕ) → (b ≡ 91 → ⊥) → (b ≡ 123 → ⊥) → By (scalar_r false) → By (value_r false k)
    via_scalar = chosen_scalar Answered doc c.at b h

    pub via_digits : (k : ℕ) → 48 ≤ b → b < 58 → By (plain_r false) → By (value_r false k)
    via_digits = chosen_digits Answered doc c.at b h

    pub via_array : (k : ℕ) → b ≡ 91 → (k ≡ 0 → ⊥) → By (bracket_r false (value_r false (k - 1))) → By (value_r false k)
    via_array = chosen_array Answered doc c.at b h

    pub via_object : (k : ℕ) → b ≡ 123 → (k ≡ 0 → ⊥) → By (bracket_r true (value_r false (k - 1))) → By (value_r false k)
    via_object = chosen_object Answered doc c.at b h

-- ---- on a line: only keywords and numbers are read otherwise

is_left : (c d : Class) (b : ℕ) → is (c ++ d) b ≡ false → is c b ≡ false
is_left c d b e = go (is c b) refl
  where
    go : (y : Bool) → is c b ≡ y → y ≡ false
    go true z = absurd (clash (left c d b z) e)
    go false z = refl

pub not_plain : (b : ℕ) → is marks b ≡ true → is plain_first b ≡ false
not_plain b e = go (is plain_first b) refl
  where
    go : (y : Bool) → is plain_first b ≡ y → y ≡ false
    go true z = absurd (none plain_first marks b refl z e)
    go false z = refl

module _ (doc : List ℕ) (at : ℕ) where
  scalar_alike : is plain_first (peek doc at) ≡ false → scalar_r true at (drop at doc) ≡ scalar_r false at (drop at doc)
  unfolding scalar_r
  scalar_alike e = second_reads doc at plain_first (plain_r true) quotes_r refl e ∙ sym (second_reads doc at plain_first (plain_r false) quotes_r refl e)

  pub value_alike : (k : ℕ) → is plain_first (peek doc at) ≡ false → value_r true k at (drop at doc) ≡ value_r false k at (drop at doc)
  unfolding value_r
  value_alike zero e = scalar_alike e
  value_alike (suc k) e =
      alt_peek doc at scalar_first refl (scalar_r true) (container_r (value_r false k))
      ∙ (ap (λ o. pick (is scalar_first (peek doc at)) o (container_r (value_r false k) at (drop at doc))) (scalar_alike e)
      ∙ sym (alt_peek doc at scalar_first refl (scalar_r false) (container_r (value_r false k))))

  plain_reads : is quotes_s.first (peek doc at) ≡ false → scalar_r true at (drop at doc) ≡ plain_r true at (drop at doc)
  unfolding scalar_r
  plain_reads e = first_reads doc at plain_first quotes_s.first (plain_r true) quotes_r refl (plain_shuts true) (ll_shuts refl quotes_ll) e

  pub line_reads : (k : ℕ) → is marks (peek doc at) ≡ false → value_r true k at (drop at doc) ≡ plain_r true at (drop at doc)
  unfolding value_r
  line_reads zero e = plain_reads (is_left quotes_s.first openings (peek doc at) e)
  line_reads (suc k) e =
      first_reads doc at scalar_first openings (scalar_r true) (container_r (value_r false k)) refl (scalar_shuts true) (ll_shuts refl (container_ll (value_ll k)))
      (is_neither quotes_s.first openings (peek doc at) e)
      ∙ plain_reads (is_left quotes_s.first openings (peek doc at) e)

module _ (doc : List ℕ) (c : Cursor) (p k : ℕ) (R R' T T' : List ℕ) (b : ℕ) (y : Bool) (h : b ≡ peek doc c.at) (j : y ≡ is marks b) where
  seen_as : {z : Bool} → y ≡ z → is marks (peek doc c.at) ≡ z
  seen_as e = ap (is marks) (sym h) ∙ (sym j ∙ e)

  pub line_plain : (f : Far) → y ≡ false → Reaches doc c p (plain_r true c.at (drop c.at doc)) f R R' T T' → Reaches doc c p (value_r true k c.at (drop c.at doc)) f R R' T T'
  line_plain f e x = rw (line_reads doc c.at k (seen_as e)) x

  module _ (a : Ans) (e : y ≡ true) (w : Answers doc c p (value_r false k c.at (drop c.at doc)) a R R' T T') where
    alike : Answers doc c p (value_r true k c.at (drop c.at doc)) a R R' T T'
    alike = rw (value_alike doc c.at k (not_plain (peek doc c.at) (seen_as e))) w

    pub line_read : (n : Cursor) → a ≡ Ok n → Reaches doc c p (value_r true k c.at (drop c.at doc)) (Ok (n, 0)) R R' T T'
    line_read n z = Laws.reaching doc c p _ R R' T T' n 0 (Laws.taken doc c p _ R R' T T' a n z alike)

    pub line_not : (q : ℕ) → a ≡ Err q → Reaches doc c p (value_r true k c.at (drop c.at doc)) (Err q) R R' T T'
    line_not q z = Laws.not_reached doc c p _ R R' T T' q (Laws.refusal doc c p _ R R' T T' a q z alike)

pub ruleset choices = (via_string, via_bytes, via_plain, via_deep, via_digits, via_scalar, via_array, via_object, rules)

pub ruleset lining = (line_plain, line_read, line_not, rules)
