-- CHARACTERS THAT ARE SHOWN AS THEY ARE (`Selfs`), one behind another: plain bytes, and the allowed characters of several bytes. Assumes nothing.
use Rattle.std.specs.Prelude.{◌≡◌, refl, List, [], ◌∷◌, ◌++◌, Bool, true, ℕ, ◌+◌, ◌/◌, ◌≤◌, ◌<◌, length, get_or, drop, eqb}
use Rattle.std.proofs.Common.{sym, ap, subst, ◌∙◌, append_assoc, add-one, arith, length-drop, drop-cons, eqb-true, le-leb}
use Rattle.std.proofs.Math.Decide.{dec_le}
use Rattle.std.proofs.Math.Seq.{slice, slice_empty, slice-cons}
use Rattle.std.proofs.lemmas.Bool.{lt-leb}
use Rattle.notation.specs.Class.{is, only}
use Rattle.exact.specs.Class.{apart_no, only_no}
use Rattle.exact.specs.Place.{slice_join}
use Rattle.characters.specs.Plains.{plain_of}
use Rattle.language.specs.Characters.{utf8, ascii, character}
use Rattle.language.specs.House.{letter, shown, shown_text}
use Rattle.utf8.specs.Spelling.{utf8_one, utf8_two, utf8_three, utf8_four}
use Rattle.house.specs.Hexes.{bounds, scalar_small}
use Rattle.house.specs.Lead.{shown_first}
use Rattle.shaped.specs.Shaped.{Scripted}
use Rattle.writer.specs.declared.Code.{Code}
use Rattle.writer.specs.Allowed.{near_one}
use Rattle.writer.specs.Codes.{First, first, Leads, Coded, self_is, digit_first, lead_bytes, lead_rest, lead_inside}

-- what stands from `at` up to e is shown as it is; what is behind it is a text, if the whole is one
pub record Selfs (s : List ℕ) (at e : ℕ) : Type 0 where
  pub from : at ≤ e
  pub inside : e ≤ length s
  pub is : shown_text (drop at s) ≡ slice at e s ++ shown_text (drop e s)
  pub script : Scripted (drop at s) → Scripted (drop e s)

-- a text goes on at a place
pub record Here (s : List ℕ) (at : ℕ) : Type 0 where
  pub script : Scripted (drop at s)
  pub inside : at < length s

pub selfs_none : {s : List ℕ} {at : ℕ} → at ≤ length s → Selfs s at at
selfs_none {s} {at} h = record { from = omega arith; inside = h; is = ap (λ u. u ++ shown_text (drop at s)) (sym (slice_empty at s)); script = λ x. x }

pub selfs_then : {s : List ℕ} {at b e : ℕ} → Selfs s at b → Selfs s b e → Selfs s at e
selfs_then {s} {at} {b} {e} h k =
    record {
      from = omega (arith, h.from, k.from);
      inside = k.inside;
      is =
          h.is
          ∙ (ap (λ u. slice at b s ++ u) k.is
          ∙ (sym (append_assoc (slice at b s) (slice b e s) (shown_text (drop e s))) ∙ ap (λ u. u ++ shown_text (drop e s)) (slice_join at b e s h.from k.from)));
      script = λ x. k.script (h.script x);
    }

pub selfs_as : {s : List ℕ} {at e f : ℕ} → Selfs s at e → e ≡ f → Selfs s at f
selfs_as {s} {at} h e = subst (λ (i : ℕ). Selfs s at i) e h

-- ---- plain bytes are shown as they are

plain_small : (b : ℕ) → is (plain_of 34) b ≡ true → b ≤ 127
plain_small b h = let r = bounds (plain_of 34) 32 126 b refl h in omega (arith, r.1)

plain_self : (b : ℕ) → is (plain_of 34) b ≡ true → shown b ≡ b ∷ []
plain_self b h =
    let p = plain_of 34 in
    let z : letter b ≡ 0 = simp (apart_no p (only 34) b refl h, apart_no p (only 92) b refl h, apart_no p (only 8) b refl h, apart_no p (only 12) b refl h, apart_no p (only 10) b refl h, apart_no p (only 13) b refl h, apart_no p (only 9) b refl h) in
    let r = bounds p 32 126 b refl h in
    let c : character ascii b ≡ true = simp (le-leb b 127 (omega (arith, r.1)), le-leb 10 b (omega (arith, r.0)), lt-leb b 10 (omega (arith, r.0)), le-leb 32 b r.0, le-leb b 126 r.1) in
    self_is b z c ∙ utf8_one b (plain_small b h)

low_shown : (b : ℕ) (t : List ℕ) → is (plain_of 34) b ≡ true → shown_text (b ∷ t) ≡ b ∷ shown_text t
low_shown b t h =
    let l = plain_small b h in
    ap (λ u. shown_text (u ++ t)) (sym (utf8_one b l)) ∙ (shown_first b t (omega arith) ∙ ap (λ u. u ++ shown_text t) (plain_self b h))

-- .. and what is behind them is a text
low_script : (b : ℕ) (t : List ℕ) → is (plain_of 34) b ≡ true → Scripted (b ∷ t) → Scripted t
low_script b t h x = by (dec_le f.value 127) (dec_le f.value 2047) (dec_le f.value 65535)
  where
    f : First (b ∷ t)
    f = first x (omega arith)

    is_one : f.value ≤ 127 → b ∷ t ≡ f.value ∷ f.rest
    is_one l = f.is ∙ ap (λ u. u ++ f.rest) (utf8_one f.value l)

    high : (w : List ℕ) (d : ℕ) → utf8 f.value ≡ d ∷ w → 127 < d → ⊥
    high w d u l =
        let e : b ∷ t ≡ d ∷ (w ++ f.rest) = f.is ∙ ap (λ u. u ++ f.rest) u in
        let k : b ≡ d = cc in
        omega (arith, plain_small b h)

    by : Dec (f.value ≤ 127) → Dec (f.value ≤ 2047) → Dec (f.value ≤ 65535) → Scripted t
    by (yes l) m n = let e = is_one l in let k : f.rest ≡ t = cc in subst Scripted k f.script
    by (no l) (yes m) n = absurd (high _ (192 + f.value / 64) (utf8_two f.value (omega arith) m) (omega arith))
    by (no l) (no m) (yes n) = absurd (high _ (224 + f.value / 4096) (utf8_three f.value (omega arith) n) (omega arith))
    by (no l) (no m) (no n) = absurd (high _ (240 + f.value / 262144) (utf8_four f.value (omega arith)) (omega arith))

-- a plain byte more
pub selfs_byte : {s : List ℕ} {at : ℕ} → at < length s → is (plain_of 34) (get_or s at 0) ≡ true → Selfs s at (at + 1)
selfs_byte {s} {at} l h =
    let d : drop at s ≡ get_or s at 0 ∷ drop (at + 1) s = drop-cons s at 0 l ∙ ap (λ i. get_or s at 0 ∷ drop i s) (sym (add-one at)) in
    let z : slice at (at + 1) s ≡ get_or s at 0 ∷ [] =
    slice-cons at (at + 1) s 0 (omega arith) (omega arith) ∙ ap (λ u. get_or s at 0 ∷ u) (ap (λ i. slice i (at + 1) s) (sym (add-one at)) ∙ slice_empty (at + 1) s) in
    record {
      from = omega arith;
      inside = omega arith;
      is = ap shown_text d ∙ (low_shown (get_or s at 0) (drop (at + 1) s) h ∙ ap (λ u. u ++ shown_text (drop (at + 1) s)) (sym z));
      script = λ x. low_script (get_or s at 0) (drop (at + 1) s) h (subst Scripted d x);
    }

pub selfs_more : {s : List ℕ} {at e : ℕ} {b : Bool} → Selfs s at e → e < length s → b ≡ is (plain_of 34) (get_or s e 0) → b ≡ true → Selfs s at (e + 1)
selfs_more h l e z = selfs_then h (selfs_byte l (sym e ∙ z))

-- it has a byte
pub longer : (v : ℕ) → 0 < length (utf8 v)
longer v = by (dec_le v 127) (dec_le v 2047) (dec_le v 65535)
  where
    by : Dec (v ≤ 127) → Dec (v ≤ 2047) → Dec (v ≤ 65535) → 0 < length (utf8 v)
    by (yes l) m n = rw (utf8_one v l) (omega arith)
    by (no l) (yes m) n = rw (utf8_two v (omega arith) m) (omega arith)
    by (no l) (no m) (yes n) = rw (utf8_three v (omega arith) n) (omega arith)
    by (no l) (no m) (no n) = rw (utf8_four v (omega arith)) (omega arith)

-- of i bytes from `at` on n are plain: all of them, if n is i
pub record Counted (s : List ℕ) (at n i : ℕ) : Type 0 where
  pub few : n ≤ i
  pub all : n ≡ i → Selfs s at (at + i)

module _ (s : List ℕ) (at : ℕ) where
  pub counted_none : at ≤ length s → Counted s at 0 0
  counted_none h = let e : at ≡ at + 0 = omega arith in record { few = omega arith; all = λ _. subst (Selfs s at) e (selfs_none h) }

  module _ {n i : ℕ} (h : Counted s at n i) where
    pub counted_more : {b : Bool} → b ≡ is (plain_of 34) (get_or s (at + i) 0) → at + i < length s → b ≡ true → {m : ℕ} → m ≡ n + 1 → Counted s at m (i + 1)
    counted_more e l z q =
        let k : at + i + 1 ≡ at + (i + 1) = omega arith in
        record { few = omega (arith, h.few); all = λ m. subst (Selfs s at) k (selfs_more (h.all (omega arith)) l e z) }

    pub counted_less : {m : ℕ} → m ≡ n → Counted s at m (i + 1)
    counted_less q = record { few = omega (arith, h.few); all = λ m. absurd (omega (arith, h.few)) }

    pub counted_all : {k : ℕ} → i ≡ k → eqb n k ≡ true → Selfs s at (at + k)
    counted_all {k} e z = subst (λ j. Selfs s at (at + j)) e (h.all (eqb-true n k z ∙ sym e))

-- a character of 128 or more, if it is allowed
high_letter : (v : ℕ) → 127 < v → letter v ≡ 0
high_letter v l =
    simp (only_no 34 v (λ e. omega arith), only_no 92 v (λ e. omega arith), only_no 8 v (λ e. omega arith), only_no 12 v (λ e. omega arith), only_no 10 v (λ e. omega arith), only_no 13 v (λ e. omega arith), only_no 9 v (λ e. omega arith))

module _ {s : List ℕ} {at : ℕ} (h : Here s at) where
  pub here_leads : Leads s at
  here_leads = first h.script (omega (arith, h.inside, length-drop at s))

  selfs_self : shown here_leads.value ≡ utf8 here_leads.value → {e : ℕ} → e ≡ at + length (utf8 here_leads.value) → Selfs s at e
  selfs_self z {e} k =
      let r : drop e s ≡ here_leads.rest = ap (λ i. drop i s) k ∙ lead_rest s at here_leads in
      record {
        from = omega arith;
        inside = omega (arith, lead_inside s at here_leads h.inside);
        is =
            ap shown_text here_leads.is
            ∙ (shown_first here_leads.value here_leads.rest (scalar_small here_leads.value here_leads.good)
            ∙ (ap (λ u. u ++ shown_text here_leads.rest) (z ∙ sym (lead_bytes s at here_leads) ∙ ap (λ i. slice at i s) (sym k)) ∙ ap (λ u. slice at e s ++ shown_text u) (sym r)));
        script = λ x. subst Scripted (sym r) here_leads.script;
      }

  high_value : 127 < get_or s at 0 → 127 < here_leads.value
  high_value l = by (dec_le here_leads.value 127)
    where
      by : Dec (here_leads.value ≤ 127) → 127 < here_leads.value
      by (yes m) = let p : get_or s at 0 ≡ here_leads.value = digit_first s at here_leads _ (utf8_one here_leads.value m) in absurd (omega arith)
      by (no m) = omega arith

  pub selfs_rare : {c : Code} {b : Bool} → 127 < get_or s at 0 → ((i : Leads s at) → Coded i.value at c) → b ≡ character ascii c.value → b ≡ true → Selfs s at c.next
  selfs_rare {c} l g e z =
      let k = g here_leads in
      selfs_self (self_is here_leads.value (high_letter here_leads.value (high_value l)) (ap (character ascii) (sym k.value) ∙ (sym e ∙ z))) k.next

  wide_self : 160 ≤ here_leads.value → here_leads.value ≤ 0xD7FF → shown here_leads.value ≡ utf8 here_leads.value
  wide_self l m = self_is here_leads.value (high_letter here_leads.value (omega arith)) (sym (near_one here_leads.value l m))

  -- told by the first byte: two bytes, and three
  module _ {b : ℕ} (e : b ≡ get_or s at 0) where
    first_byte : (w : List ℕ) → utf8 here_leads.value ≡ w → b ≡ get_or (w ++ here_leads.rest) 0 0
    first_byte w u = e ∙ digit_first s at here_leads w u

    pub selfs_two : 195 ≤ b → b ≤ 223 → Selfs s at (at + 2)
    selfs_two l m = by (dec_le here_leads.value 127) (dec_le here_leads.value 2047) (dec_le here_leads.value 65535)
      where
        by : Dec (here_leads.value ≤ 127) → Dec (here_leads.value ≤ 2047) → Dec (here_leads.value ≤ 65535) → Selfs s at (at + 2)
        by (yes x) y z = let p : b ≡ here_leads.value = first_byte _ (utf8_one here_leads.value x) in absurd (omega arith)
        by (no x) (yes y) z =
            let u = utf8_two here_leads.value (omega arith) y in
            let p : b ≡ 192 + here_leads.value / 64 = first_byte _ u in
            selfs_self (wide_self (omega arith) (omega arith)) (ap (at +◌) (sym (ap length u)))
        by (no x) (no y) (yes z) = let p : b ≡ 224 + here_leads.value / 4096 = first_byte _ (utf8_three here_leads.value (omega arith) z) in absurd (omega arith)
        by (no x) (no y) (no z) = let p : b ≡ 240 + here_leads.value / 262144 = first_byte _ (utf8_four here_leads.value (omega arith)) in absurd (omega arith)

    pub selfs_three : 223 < b → b ≤ 236 → Selfs s at (at + 3)
    selfs_three l m = by (dec_le here_leads.value 127) (dec_le here_leads.value 2047) (dec_le here_leads.value 65535)
      where
        by : Dec (here_leads.value ≤ 127) → Dec (here_leads.value ≤ 2047) → Dec (here_leads.value ≤ 65535) → Selfs s at (at + 3)
        by (yes x) y z = let p : b ≡ here_leads.value = first_byte _ (utf8_one here_leads.value x) in absurd (omega arith)
        by (no x) (yes y) z = let p : b ≡ 192 + here_leads.value / 64 = first_byte _ (utf8_two here_leads.value (omega arith) y) in absurd (omega arith)
        by (no x) (no y) (yes z) =
            let u = utf8_three here_leads.value (omega arith) z in
            let p : b ≡ 224 + here_leads.value / 4096 = first_byte _ u in
            selfs_self (wide_self (omega arith) (omega arith)) (ap (at +◌) (sym (ap length u)))
        by (no x) (no y) (no z) = let p : b ≡ 240 + here_leads.value / 262144 = first_byte _ (utf8_four here_leads.value (omega arith)) in absurd (omega arith)

pub ruleset running = (selfs_none, selfs_then, selfs_more)
