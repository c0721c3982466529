-- Laws of a number at the cursor: what was scanned is written, and the answer says so. Assumes nothing.
use mathlib.Core.Path.{◌≡◌, refl, sym, ap, subst, ◌∙◌}
use mathlib.Core.List.{List, [], ◌∷◌}
use mathlib.Core.Bool.{Bool, true, false}
use Prim.Native.Nat.{ℕ, zero, suc, ◌+◌, ◌-◌, ◌≤◌, ◌<◌}
use native.Mathlib.Nat.{add-zero}
use native.Mathlib.Omega.{arith}
use lib.ListN.{length, drop, drop_of_length-le}
use lib.Seq.{slice, length-slice}
use lib.Dec.{eqb}
use borrow.Author.Rules.{rules}
use Rattle.exact.specs.Out.{Out, bind, soft, bad, Firm}
use Rattle.exact.specs.Class.{pick, is, only, only_no}
use Rattle.exact.specs.Lang.{byte_r}
use Rattle.exact.specs.Block.{lead}
use Rattle.exact.specs.Lines.{reached, bind_reached, raised_ok}
use Rattle.exact.specs.Place.{peek, alt_not, There, there, none_there}
use Rattle.exact.specs.Place
use Rattle.characters.specs.declared.Reading.{Reading}
use Rattle.characters.specs.Reads.{Took}
use Rattle.std.specs.declared.option.Option.TheVariants.{None, Some}
use Rattle.std.specs.declared.result.Result.TheVariants.{Err, Ok}
use Rattle.characters.specs.Reads.{Skip}
use Rattle.characters.specs.Reads.{ByteRead, byte_inside, byte_there, byte_next, Skips}
use Rattle.characters.specs.Takes.{take_byte, take_next, take_other, take_place}
use Rattle.rooms.specs.Told.{spot}
use Rattle.rooms.specs.declared.Cursor.{Cursor}
use Rattle.rooms.specs.Contract.{Far}
use Rattle.rooms.specs.Contract.{Ready, Answers, Reaches, Small}
use Rattle.rooms.specs.Laws.{not_reached, reached_taken, reached_refusal}
use Rattle.rooms.specs.Laws
use Rattle.language.specs.Kind.{TRUE, INTEGER, FLOAT}
use Rattle.language.specs.Tree.{unescaped, leaf}
use Rattle.language.specs.Scalars.{plain, minus}
use Rattle.numbers.specs.declared.scanning.Numeral.{Numeral}
use Rattle.numbers.specs.Contract.{Scanned}
use Rattle.numbers.specs.Same.{found}
use Rattle.numbers.specs.Places.{squeezed, far_at}
use Rattle.numbers.specs.Texts.{minus_of, number_text}
use Rattle.numbers.specs.Plain.{signed_r, unsigned_r, plain_r, plain_ll}
use Rattle.numbers.specs.Opening.{plain_shuts}
use Rattle.numbers.specs.Contract.{Passed, Stored, Scans, refused, integer, floated, Sign, negative, positive, Writing, Leads, minus_leads, digits_lead, NumberAt, Put}
use Rattle.numbers.proofs.SqueezeLaws.{squeezed_le}
use Rattle.numbers.proofs.PutLaws.{text_read}
use Rattle.numbers.proofs.PlainLaws.{close, plain_by, body_number, body_minus, number_two, via_true, via_false, via_infinity, via_nan, via_null, via_minus}

-- THE FIRST BYTE, taken
module _ (doc : List ℕ) (at : ℕ) (t : Took) (h : ByteRead doc at t) (b : ℕ) (n : Reading) (e : t ≡ Some (b, n)) where
  pub first_passed : Passed doc at b n.at
  first_passed = record { stands = record { byte = byte_there doc at t h b n e; inside = byte_inside doc at t h b n e }; next = byte_next doc at t h b n e }

  pub first_minus : b ≡ 45 → Passed doc at 45 n.at
  first_minus k = rw k at first_passed

  pub leads_low : (b ≡ 45 → ⊥) → b < 102 → Leads doc at at false
  leads_low k l = let z = byte_there doc at t h b n e in digits_lead (λ e. omega arith) (λ e. omega arith) (λ e. omega arith) (λ e. omega arith) (λ e. k (z ∙ e))

  pub leads_high : 117 ≤ b → Leads doc at at false
  leads_high l = let z = byte_there doc at t h b n e in digits_lead (λ e. omega arith) (λ e. omega arith) (λ e. omega arith) (λ e. omega arith) (λ e. omega arith)

-- .. and what it leads to
module _ (doc : List ℕ) (at b n : ℕ) (q : Passed doc at b n) where
  pub passed_n : b ≡ 110 → Passed doc at 110 n
  passed_n e = rw e at q

  pub leads_other : 102 ≤ b → (b ≡ 110 → ⊥) → (b ≡ 116 → ⊥) → (b ≡ 102 → ⊥) → (b ≡ 105 → ⊥) → Leads doc at at false
  leads_other l k t f i = let h = q.stands.byte in digits_lead (λ e. k (h ∙ e)) (λ e. t (h ∙ e)) (λ e. f (h ∙ e)) (λ e. i (h ∙ e)) (λ e. omega arith)

pub leads_minus : (doc : List ℕ) (at n : ℕ) (t : Skip) (p : ℕ) → Passed doc at 45 n → Skips doc n (byte_r (is (only 105)) n (drop n doc)) t → t ≡ Err p → Leads doc at n true
leads_minus doc at n t p q h e =
    subst (λ k. Leads doc at k true) (sym q.next) (minus_leads q.stands (subst (λ k. peek doc k ≡ 105 → ⊥) q.next (take_other doc n 105 (omega arith) t h p e)))

leads_sign : {doc : List ℕ} {at d : ℕ} {neg : Bool} → Leads doc at d neg → Sign doc at d neg
leads_sign (minus_leads s n) = negative s
leads_sign (digits_lead n t f i m) = positive

pub leads_inside : (doc : List ℕ) (at d : ℕ) (neg : Bool) → Leads doc at d neg → at ≤ length doc → d ≤ length doc
leads_inside doc at _ _ (minus_leads s n) l = omega (arith, s.inside)
leads_inside doc at _ _ (digits_lead n t f i m) l = l

leads_read : (spaced : Bool) (doc : List ℕ) (at d : ℕ) (neg : Bool) → Leads doc at d neg
    → plain_r spaced at (drop at doc) ≡ bind (unsigned_r spaced (minus_of neg) d (drop d doc)) (close at)
leads_read spaced doc at _ _ (minus_leads s n) =
    plain_by spaced at (drop at doc) (unsigned_r spaced (45 ∷ []) (at + 1) (drop (at + 1) doc))
    (body_minus spaced doc at 45 s.byte refl ∙ number_two spaced doc at (peek doc (at + 1)) refl s.byte n)
leads_read spaced doc at _ _ (digits_lead n t f i m) =
    plain_by spaced at (drop at doc) (unsigned_r spaced [] at (drop at doc))
    (body_number spaced doc at (peek doc at) refl n t f i ∙ alt_not doc at 45 (peek doc at) (omega arith) refl (signed_r spaced) (unsigned_r spaced []) m)

-- WHAT WAS SCANNED, with its sign
scanned_bad : {spaced : Bool} {doc : List ℕ} {d : ℕ} {r : Scanned} (p : ℕ) → Scans spaced doc d r → r ≡ Err p → (m : List ℕ) → unsigned_r spaced m d (drop d doc) ≡ bad p
scanned_bad p (refused q i a) k m = let z : q ≡ p = cc in a m ∙ ap bad z
scanned_bad p (integer e b l i a t o) k m = absurd (let z : ◌≡◌ {A = ℕ} 0 1 = cc in omega arith)
scanned_bad p (floated e q b l i a t) k m = absurd (let z : ◌≡◌ {A = ℕ} 0 1 = cc in omega arith)

pub record Known (spaced : Bool) (doc : List ℕ) (d : ℕ) (s : Numeral) : Type 0 where
  pub some : d < s.end
  pub inside : s.end ≤ length doc
  pub text : TRUE < s.kind.0
  pub answer : (m : List ℕ)
      → unsigned_r spaced m d (drop d doc)
      ≡ reached (far_at spaced doc s.last) (found s.kind.0 (number_text s.kind.0 m (squeezed (slice d s.end doc)))) s.end (drop s.end doc)
  pub tight : s.dense ≡ true → squeezed (slice d s.end doc) ≡ slice d s.end doc
  pub solid : s.kind.0 ≡ INTEGER → peek doc (s.end - 1) ≡ 32 → ⊥

known : {spaced : Bool} {doc : List ℕ} {d : ℕ} {r : Scanned} (s : Numeral) → Scans spaced doc d r → r ≡ Ok s → Known spaced doc d s
known s (refused p i a) k = absurd (let z : ◌≡◌ {A = ℕ} 0 1 = cc in omega arith)
known {spaced} {doc} {d} s (integer e b l i a t o) k =
    let z : record { kind = record { 0 = INTEGER }; end = e; last = e; dense = b } ≡ s = cc in
    subst (Known spaced doc d) z (record { some = l; inside = i; text = omega arith; answer = a; tight = t; solid = λ _. o })
known {spaced} {doc} {d} s (floated e q b l i a t) k =
    let z : record { kind = record { 0 = FLOAT }; end = e; last = q; dense = b } ≡ s = cc in
    subst (Known spaced doc d) z (record { some = l; inside = i; text = omega arith; answer = a; tight = t; solid = λ y. absurd (omega arith) })

-- THE TEXT IS NOT LONGER THAN WHAT IT IS READ FROM
plain_le : (ds : List ℕ) → length (plain ds) ≤ length ds
unfolding plain
plain_le [] = omega arith
plain_le (d ∷ []) = omega arith
plain_le (d ∷ e ∷ ds) = by (eqb d 48) (plain_le (e ∷ ds))
  where
    by : (y : Bool) → length (plain (e ∷ ds)) ≤ length (e ∷ ds) → length (pick y (plain (e ∷ ds)) (d ∷ e ∷ ds)) ≤ length (d ∷ e ∷ ds)
    by true ih = omega arith
    by false ih = omega arith

minus_le : (ds : List ℕ) → length (minus ds) ≤ suc (length ds)
unfolding minus
minus_le [] = omega arith
minus_le (d ∷ ds) = by (eqb d 48)
  where
    by : (y : Bool) → length (pick y (d ∷ ds) (45 ∷ d ∷ ds)) ≤ suc (length (d ∷ ds))
    by true = omega arith
    by false = omega arith

number_le : (kind : ℕ) (neg : Bool) (w : List ℕ) → length (number_text kind (minus_of neg) w) ≤ length (minus_of neg) + length w
number_le kind true w = by (eqb kind INTEGER)
  where
    by : (y : Bool) → length (pick y (minus (plain w)) (45 ∷ w)) ≤ 1 + length w
    by true = omega (arith, minus_le (plain w), plain_le w)
    by false = omega arith
number_le kind false w = by (eqb kind INTEGER)
  where
    by : (y : Bool) → length (pick y (plain w) w) ≤ 0 + length w
    by true = omega (arith, plain_le w)
    by false = omega arith

number_fit : (doc : List ℕ) (at d e kind : ℕ) (neg : Bool) → Leads doc at d neg → d ≤ e → e ≤ length doc
    → at + length (number_text kind (minus_of neg) (squeezed (slice d e doc))) ≤ e
number_fit doc at _ e kind _ (minus_leads s n) l i =
    let a = number_le kind true (squeezed (slice (at + 1) e doc)) in
    let b = squeezed_le (slice (at + 1) e doc) in
    let q = length-slice (at + 1) e doc i in
    omega arith
number_fit doc at _ e kind _ (digits_lead n t f j m) l i =
    let a = number_le kind false (squeezed (slice at e doc)) in
    let b = squeezed_le (slice at e doc) in
    let q = length-slice at e doc i in
    omega arith

-- THE ANSWER
leads_before : {doc : List ℕ} {at d : ℕ} {neg : Bool} → Leads doc at d neg → at ≤ d
leads_before (minus_leads s n) = omega arith
leads_before (digits_lead n t f i m) = omega arith

pub number_not : (doc : List ℕ) (c : Cursor) (d : ℕ) (neg spaced : Bool) (r : Scanned) (q p : ℕ) (R T : List ℕ) → Leads doc c.at d neg → Scans spaced doc d r → r ≡ Err q
    → Reaches doc c p (plain_r spaced c.at (drop c.at doc)) (Err q) R R T T
number_not doc c d neg spaced r q p R T leads x k =
    not_reached doc c p (plain_r spaced c.at (drop c.at doc)) R R T T q
    (leads_read spaced doc c.at d neg leads ∙ ap (λ o. bind o (close c.at)) (scanned_bad q x k (minus_of neg)))

pub number_found : (doc : List ℕ) (at d : ℕ) (neg spaced : Bool) (r : Scanned) (s : Numeral) → Leads doc at d neg → Scans spaced doc d r → r ≡ Ok s → NumberAt doc at d neg spaced s
number_found doc at d neg spaced r s leads x k = record { leads = leads; scanned = rw k at x }

-- at the document's end there is none
pub plain_over : (doc : List ℕ) (c : Cursor) (spaced : Bool) (t : Took) (p : ℕ) (R T : List ℕ) → ByteRead doc c.at t → t ≡ None
    → Reaches doc c p (plain_r spaced c.at (drop c.at doc)) (Err c.at) R R T T
unfolding ByteRead
plain_over doc c spaced t p R T h e =
    let l : length doc ≤ c.at = (rw e at h).0 in
    not_reached doc c p (plain_r spaced c.at (drop c.at doc)) R R T T c.at
    (ap (plain_r spaced c.at) (drop_of_length-le doc l) ∙ (plain_shuts spaced).at_none c.at)

module _ (doc : List ℕ) (c : Cursor) (d : ℕ) (neg spaced : Bool) (s : Numeral) (ready : Ready doc c) (f : NumberAt doc c.at d neg spaced s) where
  abbrev text : List ℕ
  text = number_text s.kind.0 (minus_of neg) (squeezed (slice d s.end doc))

  number_known : Known spaced doc d s
  number_known = known s f.scanned refl

  text_fits : c.at + length text ≤ s.end
  text_fits = let y = number_known in let z = y.some in number_fit doc c.at d s.end s.kind.0 neg f.leads (omega arith) y.inside

  -- its text begins at x
  module _ (x : ℕ) (at_x : x ≡ spot c.text) where
    pub number_writing : Writing doc s c.at d neg x
    number_writing =
        let y = number_known in
        record {
          sign = leads_sign f.leads;
          some = y.some;
          inside = y.inside;
          last = y.solid;
          small = omega (arith, ready.small, ready.few_text, ready.inside);
          dense = y.tight;
        }

    module _ (T T' : List ℕ) (to : ℕ) (q : Stored T T' x to text) where
      pub number_small : Small c.at s.end (spot c.text) to (c.row + 1)
      number_small =
          let i = number_known.inside in
          let l = text_fits in
          let e = q.end in
          let m = ready.small in
          let r = ready.few_rows in
          let t = ready.few_text in
          let j = ready.inside in
          record { first_fits = omega arith; after_fits = omega arith; from_fits = omega arith; to_fits = omega arith; next_fits = omega arith }

      pub number_read : (p far : ℕ) (R R' : List ℕ) (n : Cursor) → Put R R' c p s.kind.0 s.end to n → far ≡ far_at spaced doc s.last
          → Reaches doc c p (plain_r spaced c.at (drop c.at doc)) (Ok (n, far)) R R' T T'
      number_read p far R R' n w z =
          let y = number_known in
          let at = c.at in
          let g = far_at spaced doc s.last in
          let o : plain_r spaced at (drop at doc) ≡ reached far (leaf s.kind.0 at s.end (unescaped text)) s.end (drop s.end doc) =
          leads_read spaced doc at d neg f.leads
          ∙ (ap (λ o. bind o (close at)) (y.answer (minus_of neg))
          ∙ (bind_reached g (found s.kind.0 text) s.end (drop s.end doc) (close at)
          ∙ (raised_ok g (leaf s.kind.0 at s.end (unescaped text)) s.end (drop s.end doc) ∙ rw z refl))) in
          let h : at < s.end = omega (arith, y.some, leads_before f.leads) in
          text_read doc c ready text s.end to h y.inside text_fits p s.kind.0 far (plain_r spaced at (drop at doc)) R R' T T' n
          (omega (arith, q.end)) y.text o w (rw at_x at q.room)

-- HOW FAR
module _ (doc : List ℕ) (last : ℕ) where
  pub far_none : (spaced : Bool) → spaced ≡ false → 0 ≡ far_at spaced doc last
  unfolding far_at
  far_none spaced h = rw h refl

  module _ (spaced : Bool) (e : spaced ≡ true) (t : Skip) (h : Skips doc last (byte_r (is (only 32)) last (drop last doc)) t) where
    pub far_space : (n : ℕ) → t ≡ Ok n → n ≡ far_at spaced doc last
    unfolding far_at
    far_space n k = rw (e, take_next doc last 32 (omega arith) t h n k) (go (there doc last))
      where
        space : 32 ≡ peek doc last
        space = take_byte doc last 32 (omega arith) t h n k

        go : There doc last → last + 1 ≡ last + lead 1 (drop last doc)
        go (Place.byte_there q) = rw (q, ← space) refl
        go (none_there q z) = absurd (omega (arith, space))

    pub far_here : (p : ℕ) → t ≡ Err p → p ≡ far_at spaced doc last
    unfolding far_at
    far_here p k = rw (e, take_place doc last 32 (omega arith) t h p k) (go (there doc last))
      where
        go : There doc last → last ≡ last + lead 1 (drop last doc)
        go (Place.byte_there q) = rw (q, only_no 32 (peek doc last) (take_other doc last 32 (omega arith) t h p k)) (sym (add-zero last))
        go (none_there q z) = rw q (sym (add-zero last))

-- FIRM: no answer is soft
firm_zero : {X : Type 0} {o : Out X} (far : ℕ) (v : X) (a : ℕ) (t : List ℕ) → Firm o → o ≡ reached far v a t → far ≡ 0
firm_zero zero v a t f h = refl
firm_zero (suc p) v a t f h = absurd (never (subst Firm h f))
  where
    never : Firm (soft (suc p) v a t) → ⊥
    never x = elim x [ ]

module _ (doc : List ℕ) (c : Cursor) (p : ℕ) (R R' T T' : List ℕ) (f : Far) (x : Reaches doc c p (plain_r false c.at (drop c.at doc)) f R R' T T') where
  pub inside_took : (n : Cursor) (far : ℕ) → f ≡ Ok (n, far) → Answers doc c p (plain_r false c.at (drop c.at doc)) (Ok n) R R' T T'
  inside_took n far e =
      let o = plain_r false c.at (drop c.at doc) in
      let t = reached_taken doc c p o R R' T T' f n far e x in
      let z : far ≡ 0 = firm_zero far t.tree n.at (drop n.at doc) (plain_ll.firm c.at (drop c.at doc)) t.is in
      Laws.took doc c p o R R' T T' n (rw z at t)

  pub inside_not : (q : ℕ) → f ≡ Err q → Answers doc c p (plain_r false c.at (drop c.at doc)) (Err q) R R' T T'
  inside_not q e =
      let o = plain_r false c.at (drop c.at doc) in
      Laws.refused doc c p o R R' T T' q (reached_refusal doc c p o R R' T T' f q e x)

pub ruleset number_laws = (leads_inside, number_not, number_found, rules)

pub ruleset write_laws = (number_writing, number_small, number_read, rules)

pub ruleset far_laws = (far_none, far_space, far_here, rules)

pub ruleset inside_laws = (inside_took, inside_not, rules)

pub ruleset pair_laws = (leads_minus, via_nan, via_null, via_minus, rules)

pub ruleset word_laws = (passed_n, via_true, via_false, via_infinity, rules)

pub ruleset plain_laws = (first_passed, first_minus, leads_low, leads_high, plain_over, rules)
