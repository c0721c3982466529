-- The test for CHAR is right: where a document stops, the byte there and three before it tell whether the bytes through it begin a sequence of allowed
-- characters. Assumes nothing.
use Rattle.std.specs.Prelude.{◌≡◌, refl, List, [], ◌∷◌, ◌++◌, Bool, true, false, ℕ, suc, ◌-◌, ◌≤◌, ◌<◌, length, take, drop, get_or}
use Rattle.std.proofs.Common.{sym, ap, subst, ◌∙◌, arith, take-append-drop, length-drop, take-suc, length-take-le}
use Rattle.std.proofs.Math.Decide.{dec_le}
use Rattle.exact.specs.Verdict.{Begins}
use Rattle.exact.specs.Class.{pick, clash, and, is}
use Rattle.utf8.specs.Utf8.{At, live, next, start}
use Rattle.utf8.specs.Whole.{left_of, whole_start, whole_of, left_most, step_back, scan_back, scan_append, inside_step, outside_step}
pub use Rattle.language.specs.Characters.{ascii, Allowed}
pub use Rattle.utf8.specs.Whole.{step, scan, whole, tail_byte, allowed_whole, begins_live}
pub use Rattle.utf8.specs.Clean.{Clean, ret_clean, here_clean, byte_clean, sub_clean, char_clean, seq_clean, alt_clean, star_clean, plus_clean, map_clean, such_clean, indented_clean, run_clean, word_clean, end_clean}

-- THE TEST. From the three bytes before the place: tail bytes are passed over until a character is seen to start
abbrev pub catch : At → ℕ → At
catch τ b = pick (and (is tail_byte b) (whole τ)) τ (step τ b)

abbrev pub caught : At → List ℕ → At
caught τ [] = τ
caught τ (b ∷ u) = caught (catch τ b) u

abbrev pub three_before : ℕ → List ℕ → List ℕ
three_before p s = drop (p - 3) (take p s)

abbrev pub bad_char : ℕ → List ℕ → Bool
bad_char p s = pick (live (step (caught start (three_before p s)) (get_or s p 0))) false true

-- the same state, or between two characters where no more than m bytes are left
data Sync (m : ℕ) (σ τ : At) : Type 0 where
  in_step : σ ≡ τ → Sync m σ τ
  later : whole τ ≡ true → left_of σ ≤ m → Sync m σ τ

catch_no : (τ : At) (b : ℕ) → is tail_byte b ≡ false → catch τ b ≡ step τ b
catch_no τ b e = ap (λ (x : Bool). pick (and x (whole τ)) τ (step τ b)) e

sync_step : (m : ℕ) (σ τ : At) (b : ℕ) → live (step σ b) ≡ true → Sync (suc m) σ τ → Sync m (step σ b) (catch τ b)
sync_step m σ τ b e y = by (dec_le 1 (left_of σ)) y
  where
    by : Dec (1 ≤ left_of σ) → Sync (suc m) σ τ → Sync m (step σ b) (catch τ b)
    by (yes l) (in_step f) = in_step (subst (λ (ρ : At). step σ b ≡ catch ρ b) f (sym (not_whole (whole σ) refl)))
      where
        not_whole : (x : Bool) → whole σ ≡ x → catch σ b ≡ step σ b
        not_whole true x = absurd (omega (arith, (whole_of σ x).1))
        not_whole false x = rw x (and_no (is tail_byte b))
          where
            and_no : (x : Bool) → pick (and x false) σ (step σ b) ≡ step σ b
            and_no true = refl
            and_no false = refl
    by (yes l) (later w k) =
        let i = inside_step σ b l e in
        later (subst (λ (ρ : At). whole ρ ≡ true) (sym (ap (λ (x : Bool). pick (and x (whole τ)) τ (step τ b)) i.1 ∙ ap (λ (x : Bool). pick x τ (step τ b)) w)) w) (omega (arith, i.2))
    by (no l) (in_step f) =
        let o = outside_step σ b (step_back σ b e) (omega arith) e in
        in_step (subst (λ (ρ : At). step σ b ≡ catch ρ b) f (sym (catch_no σ b o.1)))
    by (no l) (later w k) =
        let o = outside_step σ b (step_back σ b e) (omega arith) e in
        let v = whole_of τ w in
        in_step (o.0 ∙ (sym (ap (λ (ρ : At). next ascii ρ b) (whole_start τ v.0 v.1)) ∙ sym (catch_no τ b o.1)))

sync_scan : (u : List ℕ) (σ τ : At) → live (scan σ u) ≡ true → Sync (length u) σ τ → Sync 0 (scan σ u) (caught τ u)
sync_scan [] σ τ e y = y
sync_scan (b ∷ u) σ τ e y = sync_scan u (step σ b) (catch τ b) e (sync_step (length u) σ τ b (scan_back u (step σ b) e) y)

-- then the next byte does the same
sync_next : (σ τ : At) (b : ℕ) → live σ ≡ true → Sync 0 σ τ → step σ b ≡ step τ b
sync_next σ τ b e (in_step f) = ap (λ (ρ : At). step ρ b) f
sync_next σ τ b e (later w k) =
    let v = whole_of τ w in
    ap (λ (ρ : At). next ascii ρ b) (whole_start σ e (omega arith) ∙ sym (whole_start τ v.0 v.1))

module _ (s : List ℕ) (p : ℕ) (l : p < length s) (before : Begins Allowed (take p s)) where
  alive : live (scan start (take p s)) ≡ true
  alive = begins_live (take p s) before

  synced : Sync 0 (scan start (take p s)) (caught start (three_before p s))
  synced =
      let x = take (p - 3) (take p s) in
      let u = three_before p s in
      let whole_text : x ++ u ≡ take p s = take-append-drop (p - 3) (take p s) in
      let joined : scan start (take p s) ≡ scan (scan start x) u = ap (scan start) (sym whole_text) ∙ scan_append x u start in
      subst
      (λ (σ : At). Sync 0 σ (caught start u))
      (sym joined)
      (sync_scan u (scan start x) start (subst (λ (σ : At). live σ ≡ true) joined alive) (begin (dec_le 3 p)))
    where
      long : length (take p s) ≡ p
      long = length-take-le p s (omega arith)

      begin : Dec (3 ≤ p) → Sync (length (three_before p s)) (scan start (take (p - 3) (take p s))) start
      begin (yes h) = later refl (omega (arith, left_most (scan start (take (p - 3) (take p s))), length-drop (p - 3) (take p s), long))
      begin (no h) = in_step (nothing_before (p - 3) (omega arith))
        where
          nothing_before : (n : ℕ) → n ≡ 0 → scan start (take n (take p s)) ≡ start
          nothing_before n e = rw e refl

  pub agree : scan start (take (suc p) s) ≡ step (caught start (three_before p s)) (get_or s p 0)
  agree =
      ap (scan start) (take-suc s p 0 l)
      ∙ (scan_append (take p s) (get_or s p 0 ∷ []) start ∙ sync_next (scan start (take p s)) (caught start (three_before p s)) (get_or s p 0) alive synced)

  -- CHAR, exactly
  pub char_yes : bad_char p s ≡ true → Begins Allowed (take (suc p) s) → ⊥
  char_yes e b = by (live (step (caught start (three_before p s)) (get_or s p 0))) refl e
    where
      by : (x : Bool) → live (step (caught start (three_before p s)) (get_or s p 0)) ≡ x → pick x false true ≡ true → ⊥
      by true x y = clash y refl
      by false x y = clash (subst (λ (σ : At). live σ ≡ true) agree (begins_live (take (suc p) s) b)) x

-- `a:` and a tab: CHAR 2. The bytes EF BB BF first: not CHAR at 0. A tail byte after a whole character of four bytes: CHAR
t₁ : bad_char 2 (97 ∷ 58 ∷ 9 ∷ []) ≡ true
t₁ = refl

t₂ : bad_char 0 (239 ∷ 187 ∷ 191 ∷ []) ≡ false
t₂ = refl

t₃ : bad_char 4 (240 ∷ 159 ∷ 152 ∷ 128 ∷ 128 ∷ []) ≡ true
t₃ = refl
