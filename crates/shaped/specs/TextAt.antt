-- A TEXT STANDS IN A ROOM from a place on (`TextAt`), within what the room counts for. Assumes nothing.
use Rattle.std.specs.Prelude.{◌≡◌, refl, List, [], ◌∷◌, ◌++◌, ℕ, zero, suc, ◌+◌, ◌-◌, ◌≤◌, length, take, drop}
use Rattle.std.proofs.Common.{sym, ap, ap₂, ◌∙◌, arith, length-append, take-add, take-take, drop-drop}
use Rattle.std.proofs.Math.Seq.{slice, length-slice, take-nil, take-append_seam, drop-append_seam}
use Rattle.language.specs.Lent.{lent, bytes_in}

pub record TextAt (text : List ℕ) (x : ℕ) (s : List ℕ) : Type 0 where
  pub fits : x + length s ≤ bytes_in text
  pub is : take (length s) (drop x text) ≡ s

-- a slice is taken and dropped in either order
slice_take : (x e : ℕ) (l : List ℕ) → x ≤ e → slice x e l ≡ take (e - x) (drop x l)
slice_take zero e l h = ap (λ (n : ℕ). take n l) (let z : e ≡ e - 0 = omega arith in z)
slice_take (suc x) zero l h = absurd (omega arith)
slice_take (suc x) (suc e) [] h = sym (take-nil (suc e - suc x))
slice_take (suc x) (suc e) (b ∷ l) h = slice_take x e l (omega arith) ∙ ap (λ (n : ℕ). take n (drop x l)) (let z : e - x ≡ suc e - suc x = omega arith in z)

pub text_none : {text : List ℕ} {x : ℕ} → x ≤ bytes_in text → TextAt text x []
text_none h = record { fits = omega arith; is = refl }

-- one behind another
module _ (text : List ℕ) (x : ℕ) (s t : List ℕ) where
  -- as many bytes of the room as both have
  both : take (length s) (drop x text) ++ take (length t) (drop (x + length s) text) ≡ take (length (s ++ t)) (drop x text)
  both =
      ap (λ (l : List ℕ). take (length s) (drop x text) ++ take (length t) l) (sym (drop-drop (length s) x text))
      ∙ (sym (take-add (length s) (length t) (drop x text)) ∙ ap (λ (n : ℕ). take n (drop x text)) (sym (length-append s t)))

  pub text_join : TextAt text x s → TextAt text (x + length s) t → TextAt text x (s ++ t)
  text_join h k = record { fits = omega (arith, h.fits, k.fits, length-append s t); is = sym both ∙ ap₂ (λ (l m : List ℕ). l ++ m) h.is k.is }

  pub text_left : TextAt text x (s ++ t) → TextAt text x s
  text_left h =
      let e = length-append s t in
      record {
        fits = omega (arith, h.fits);
        is = sym (take-take (length s) (length (s ++ t)) (drop x text) (omega arith)) ∙ (ap (take (length s)) h.is ∙ take-append_seam s t);
      }

  pub text_right : TextAt text x (s ++ t) → TextAt text (x + length s) t
  text_right h =
      let m = take (length t) (drop (x + length s) text) in
      let e : s ++ m ≡ s ++ t = ap (λ (l : List ℕ). l ++ m) (sym (text_left h).is) ∙ (both ∙ h.is) in
      record { fits = omega (arith, h.fits, length-append s t); is = sym (drop-append_seam s m) ∙ (ap (drop (length s)) e ∙ drop-append_seam s t) }

-- what stands from one place of the room up to another
pub text_slice : {text : List ℕ} (x e : ℕ) → x ≤ e → e ≤ bytes_in text → TextAt text x (slice x e text)
text_slice {text} x e h k =
    let n : length (slice x e text) ≡ e - x = length-slice x e text (omega arith) in
    record { fits = omega arith; is = rw n (sym (slice_take x e text h)) }

pub slice_text : {text : List ℕ} {x : ℕ} {s : List ℕ} → TextAt text x s → slice x (x + length s) text ≡ s
slice_text {text} {x} {s} h = slice_take x (x + length s) text (omega arith) ∙ (ap (λ (n : ℕ). take n (drop x text)) (let e : x + length s - x ≡ length s = omega arith in e) ∙ h.is)

-- a text in front of others
pub text_front : (s others : List ℕ) → length s ≤ lent → TextAt (s ++ others) 0 s
text_front s others h = record { fits = omega (arith, length-append s others); is = take-append_seam s others }

-- two texts at one place are one if they are equally long
pub text_told : {text : List ℕ} {x : ℕ} {s t : List ℕ} → TextAt text x s → TextAt text x t → length s ≡ length t → s ≡ t
text_told {text} {x} h k e = sym h.is ∙ (ap (λ (n : ℕ). take n (drop x text)) e ∙ k.is)
