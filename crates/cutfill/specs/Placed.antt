-- TREES PLACED IN A VIEW: the rows of forests one behind another (`rows_beside`), the places inside a field (`places_inside`), and those of fields that stand in one run (`run_placed`). Assumes nothing.
use Rattle.std.specs.Prelude.{◌≡◌, refl, List, ◌++◌, ℕ, zero, suc, ◌+◌, ◌≤◌, ◌<◌, length, get_or, drop}
use Rattle.std.proofs.Common.{sym, ap, ap₂, ◌∙◌, append_assoc, arith, length-append}
use Rattle.std.proofs.Math.Path.{fun_ext}
use Rattle.language.specs.Tree.{unlined, Tree, node, Forest, none, more, size, sizes, text_of, texts_of, rows_of, rowss}
use Rattle.shaped.specs.Bare.{alike_size, alike_text}
use Rattle.shaped.specs.Beside.{beside}
use Rattle.stored.specs.Form.{head, widest, inside, content, forms, form, placed, placeds}
use Rattle.stored.proofs.PartsLaws.{cut_short}
use Rattle.stored.proofs.LengthsLaws.{forms_length}
use Rattle.stored.specs.Unspanned.{placed_like}
use Rattle.stored.specs.Old as old
use Rattle.stored.specs.Old.{wide_below}
use Rattle.stored.proofs.OldFormsLaws.{same_placeds}
use Rattle.stored.proofs.OldLengthsLaws.{short_now, content_narrow}
use Rattle.views.specs.Views.{place_of, place_file, Deeper}

-- where the bytes of a view from `at` on stand
unfoldable pub places : List ℕ → ℕ → ℕ → ℕ → ℕ
places starts d at i = place_of starts d (at + i)

pub places_are : (starts : List ℕ) (d at i : ℕ) → places starts d at i ≡ place_of starts d (at + i)
unfolding places
places_are starts d at i = refl

pub places_later : (starts : List ℕ) (d at n : ℕ) → (λ (i : ℕ). places starts d at (n + i)) ≡ places starts d (at + n)
unfolding places
places_later starts d at n = fun_ext (λ i. ap (place_of starts d) (let e : at + (n + i) ≡ at + n + i = omega arith in e))

pub places_file : (starts : List ℕ) → places starts 0 0 ≡ (λ (i : ℕ). i)
unfolding places
places_file starts = fun_ext (λ i. place_file starts (0 + i) ∙ omega arith)

-- ---- the places inside a field

place_same : (starts new : List ℕ) (d i : ℕ) → ((k : ℕ) → k < d → get_or new k 0 ≡ get_or starts k 0) → place_of new d i ≡ place_of starts d i
unfolding place_of
place_same starts new zero i f = refl
place_same starts new (suc d) i f =
    place_same starts new d (get_or new d 0 + inside i) (λ k l. f k (omega arith)) ∙ ap (λ (a : ℕ). place_of starts d (a + inside i)) (f d (omega arith))

place_deeper : (starts : List ℕ) (d i : ℕ) → place_of starts (d + 1) i ≡ place_of starts d (get_or starts d 0 + inside i)
unfolding place_of
place_deeper starts d i = ap (λ (k : ℕ). place_of starts k i) (let e : d + 1 ≡ suc d = omega arith in e)

pub places_inside : {starts : List ℕ} {d at : ℕ} {new : List ℕ} → Deeper starts d at new → (λ (i : ℕ). places starts d at (inside i)) ≡ places new (d + 1) 0
unfolding places
places_inside {starts} {d} {at} {new} h =
    fun_ext
    (λ i.
    sym
    (ap (place_of new (d + 1)) (let e : 0 + i ≡ i = omega arith in e)
    ∙ (place_deeper new d i
    ∙ (place_same starts new d (get_or new d 0 + inside i) h.around ∙ ap (λ (a : ℕ). place_of starts d (a + inside i)) h.here))))

-- ---- forests one behind another

pub beside_all : (ts us vs : Forest) → beside ts (beside us vs) ≡ beside (beside ts us) vs
unfolding beside
beside_all none us vs = refl
beside_all (more t ts) us vs = ap (more t) (beside_all ts us vs)

pub beside_none : (ts : Forest) → beside ts none ≡ ts
unfolding beside
beside_none none = refl
beside_none (more t ts) = ap (more t) (beside_none ts)

pub placed_size : (f : ℕ → ℕ) (t : Tree) → size (placed f t) ≡ size t
placed_size f t = alike_size (placed f t) t (placed_like f t)

pub placed_text : (f : ℕ → ℕ) (t : Tree) → text_of (placed f t) ≡ text_of t
placed_text f t = alike_text (placed f t) t (placed_like f t)

pub placeds_size : (f : ℕ → ℕ) (ts : Forest) → sizes (placeds f ts) ≡ sizes ts
unfolding placed size
placeds_size f none = refl
placeds_size f (more t ts) = ap₂ (λ (m n : ℕ). m + n) (placed_size f t) (placeds_size (λ i. f (length (form t) + i)) ts)

rows_first : (f : ℕ → ℕ) (t : Tree) (ts : Forest) (r p x : ℕ)
    → rowss unlined r p x (placeds f (more t ts)) ≡ rows_of unlined r p x (placed f t) ++ rowss unlined (r + size t) p (x + length (text_of t)) (placeds (λ i. f (length (form t) + i)) ts)
unfolding placed rows_of
rows_first f t ts r p x =
    ap₂ (λ (m : ℕ) (s : List ℕ). rows_of unlined r p x (placed f t) ++ rowss unlined (r + m) p (x + length s) (placeds (λ i. f (length (form t) + i)) ts)) (placed_size f t) (placed_text f t)

-- where what is behind begins
rows_from : (us : Forest) (p : ℕ) {r r' x x' : ℕ} {f g : ℕ → ℕ} → r ≡ r' → x ≡ x' → f ≡ g → rowss unlined r p x (placeds f us) ≡ rowss unlined r' p x' (placeds g us)
rows_from us p {r' = r'} {x' = x'} {f = f} e h k =
    ap₂ (λ (i : ℕ) (j : ℕ). rowss unlined i p j (placeds f us)) e h ∙ ap (λ (q : ℕ → ℕ). rowss unlined r' p x' (placeds q us)) k

pub rows_beside : (f : ℕ → ℕ) (ts us : Forest) (r p x : ℕ)
    → rowss unlined r p x (placeds f (beside ts us)) ≡ rowss unlined r p x (placeds f ts) ++ rowss unlined (r + sizes ts) p (x + length (texts_of ts)) (placeds (λ i. f (length (forms ts) + i)) us)
unfolding beside placed rows_of size text_of content
rows_beside f none us r p x = rows_from us p (omega arith) (omega arith) (fun_ext (λ i. ap f (let e : i ≡ 0 + i = omega arith in e)))
rows_beside f (more t ts) us r p x =
    let g : ℕ → ℕ = λ i. f (length (form t) + i) in
    let a = rows_of unlined r p x (placed f t) in
    let b = rowss unlined (r + size t) p (x + length (text_of t)) (placeds g ts) in
    let c = rowss unlined (r + sizes (more t ts)) p (x + length (texts_of (more t ts))) (placeds (λ i. f (length (forms (more t ts)) + i)) us) in
    let z = rows_from us p
    (let e : r + size t + sizes ts ≡ r + sizes (more t ts) = omega arith in e)
    (let e : x + length (text_of t) + length (texts_of ts) ≡ x + length (texts_of (more t ts)) = omega (arith, length-append (text_of t) (texts_of ts)) in e)
    (fun_ext (λ i. ap f (let e : length (form t) + (length (forms ts) + i) ≡ length (forms (more t ts)) + i = omega (arith, forms_length t ts) in e))) in
    rows_first f t (beside ts us) r p x
    ∙ (ap (λ (s : List ℕ). a ++ s) (rows_beside g ts us (r + size t) p (x + length (text_of t)) ∙ ap (λ (s : List ℕ). b ++ s) z)
    ∙ (sym (append_assoc a b c) ∙ ap (λ (s : List ℕ). s ++ c) (sym (rows_first f t ts r p x))))

-- ---- fields in one run: no content is wide, and the places go straight on

pub run_forms : (ts : Forest) → length (forms ts) ≤ widest → forms ts ≡ old.forms ts
unfolding content old.content
run_forms ts l =
    let t = node 0 0 0 0 ts in
    let e = cut_short 0 (forms ts) l in
    let h : form t ≡ old.form t = short_now t (omega (arith, ap length e)) in
    ap (drop head) (sym e ∙ h)

pub run_placed : (f : ℕ → ℕ) (a : ℕ) (ts : Forest) → length (forms ts) ≤ widest → ((i : ℕ) → i < length (forms ts) → f i ≡ a + i) → placeds f ts ≡ old.placeds a ts
unfolding old.content
run_placed f a ts l g =
    let e = ap length (run_forms ts l) in
    same_placeds ts (λ w. content_narrow (node 0 0 0 0 ts) (omega arith) (wide_below w)) (record { goes = λ i m. g i (omega arith) })
