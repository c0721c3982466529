-- What code learns of the pieces of a line at a place of a document. Assumes nothing.
use Rattle.std.specs.Prelude.{◌≡◌, List, [], ◌∷◌, ◌++◌, Bool, true, false, ℕ, zero, suc, ◌+◌, ◌≤◌, ◌<◌, length, take, drop, get_or}
use Rattle.std.proofs.Math.Path.{refl, sym}
use Rattle.std.proofs.Common.{ap, subst, ◌∙◌, drop_of_length-le, length-drop, drop-cons, le-leb}
use native.Mathlib.Omega.{arith}
use Rattle.std.proofs.Math.Seq.{slice}
use Rattle.std.proofs.lemmas.Bool.{lt-leb}
use Rattle.exact.specs.Class.{Class, pick, clash, is, only, left, right, is_right, and_of}
use Rattle.exact.specs.Out.{Out, ok, soft, bad, bind, fmap, reach, reach_from, Tamed, tamed_bind, tamed_fmap, forward, t_ok, t_soft, t_bad}
use Rattle.exact.specs.Lang.{ret_r, ret_exact}
use Rattle.exact.specs.Answers.{map_fmap}
use Rattle.exact.specs.Comb.{seq_r, seq_tame, many_r, star_r, cat}
use Rattle.exact.specs.Run.{run_l, run_exact}
use Rattle.exact.specs.Place.{run, run_end, run_end_lem, many_run}
use Rattle.language.specs.Characters.{dark, character, utf8, wide}
use Rattle.utf8.specs.Utf8.{Arrow, ◌to-be◌, table, follow, live, full, Classes, found, next, laws, start, char_r}
use Rattle.utf8.proofs.CharLaws.{char_ll}
use Rattle.utf8.specs.Tails.{every}
use Rattle.characters.specs.Reads.{Stands, Ends}
use Rattle.characters.specs.Comments.{piece_r, piece_s, piece_ll, pieces_r}

-- A DARK CHARACTER, among those that are allowed
module _ (v : ℕ) where
  pub dark_below : v < 33 → false ≡ character dark v
  dark_below h = rw (le-leb v 127 (omega arith), lt-leb 33 v h) refl

  pub dark_among : 33 ≤ v → v < 127 → true ≡ character dark v
  dark_among h k = rw (le-leb v 127 (omega arith), le-leb 33 v h, le-leb v 126 (omega arith)) refl

  pub dark_delete : v ≡ 127 → false ≡ character dark v
  dark_delete h = rw h refl

  pub dark_above : (127 < v → wide v ≡ true) → 127 ≤ v → (v ≡ 127 → ⊥) → true ≡ character dark v
  dark_above w h k = let l : 127 < v = omega arith in rw (lt-leb v 127 l) (sym (w l))

-- A PIECE: spaces up to j, and there a character
module _ (doc : List ℕ) (at j : ℕ) (e : j ≡ run_end (only 32) doc at) where
  piece_at : piece_r at (drop at doc) ≡ bind (char_r dark j (drop j doc)) (λ c. ret_r (slice at j doc ++ c))
  piece_at = rw (run_end_lem (only 32) doc at, e) refl

  pub piece_bad : (p : ℕ) → char_r dark j (drop j doc) ≡ bad p → piece_r at (drop at doc) ≡ bad p
  piece_bad p h = piece_at ∙ rw h refl

  module _ (v n : ℕ) (s : Stands doc j v n) where
    pub piece_light : false ≡ character dark v → piece_r at (drop at doc) ≡ bad j
    piece_light h = piece_bad j (s.taken dark ∙ ap (λ x. pick x (ok (utf8 v) n (drop n doc)) (bad j)) (sym h))

    pub piece_ends : true ≡ character dark v → Ends doc at (piece_r at (drop at doc)) n
    piece_ends h =
        record {
          value = slice at j doc ++ utf8 v;
          is =
              piece_at
              ∙ ap (λ o. bind o (λ c. ret_r (slice at j doc ++ c))) (s.taken dark ∙ ap (λ x. pick x (ok (utf8 v) n (drop n doc)) (bad j)) (sym h));
          behind = omega (arith, s.ahead);
          inside = s.inside;
        }

-- a piece is not empty, and one that is refused at its first byte does not begin
tame_bad : {X : Type 0} {d at : ℕ} {s : List ℕ} {o : Out X} (p : ℕ) → Tamed d at s o → o ≡ bad p → at ≤ p
tame_bad {at = at} p t h = subst (at ≤◌) (ap reach h) (reach_from t)

tame_ok : {X : Type 0} {d at : ℕ} {s : List ℕ} {o : Out X} {v : X} {n : ℕ} {t : List ℕ} → Tamed d at s o → o ≡ ok v n t → at + d ≤ n
tame_ok {d = d} {at} {n = n} (t_ok m) h = subst (at + d ≤◌) (ap reach h) (forward m)
tame_ok (t_soft p m l) h = let z : ◌≡◌ {A = ℕ} 0 1 = cc in absurd (omega arith)
tame_ok (t_bad p l k) h = let z : ◌≡◌ {A = ℕ} 0 1 = cc in absurd (omega arith)

pub piece_ahead : (doc : List ℕ) (at n : ℕ) → Ends doc at (piece_r at (drop at doc)) n → at < n
piece_ahead doc at n e = let h = tame_ok (piece_ll.exact.moves.tame at (drop at doc)) e.is in omega arith

-- what has a row of a table is followed to a live state
row_live : (rows : List Arrow) (b : ℕ) → every (λ c σ. live σ) rows ≡ true → is (Classes rows) b ≡ true → live (follow rows b) ≡ true
row_live [] b h e = absurd (clash e refl)
row_live ((c to-be σ) ∷ rows) b h e = by (is c b) refl (and_of (live σ) (every (λ c σ. live σ) rows) h) (row_live rows b)
  where
    by : (x : Bool) → is c b ≡ x → (live σ ≡ true) × (every (λ c σ. live σ) rows ≡ true)
        → (every (λ c σ. live σ) rows ≡ true → is (Classes rows) b ≡ true → live (follow rows b) ≡ true) → live (pick x σ (follow rows b)) ≡ true
    by true x y ih = y.0
    by false x y ih = ih y.1 (is_right c (Classes rows) b x e)

abbrev first_byte : Class
first_byte = piece_s.first

module _ (at b : ℕ) (s : List ℕ) where
  piece_none : is first_byte b ≡ false → piece_r at (b ∷ s) ≡ bad at
  piece_none e = rw (no_space (is (only 32) b) refl, no_char (live (next dark start b)) refl) refl
    where
      no_space : (x : Bool) → is (only 32) b ≡ x → x ≡ false
      no_space true y = absurd (clash (left (only 32) (Classes (table dark start)) b y) e)
      no_space false y = refl

      no_char : (x : Bool) → live (next dark start b) ≡ x → x ≡ false
      no_char true y = absurd (clash (right (only 32) (Classes (table dark start)) b (found (table dark start) b y)) e)
      no_char false y = refl

  piece_begins : (p : ℕ) → is first_byte b ≡ true → piece_r at (b ∷ s) ≡ bad p → at < p
  unfolding run
  piece_begins p e h = by (is (only 32) b) refl
    where
      spaced : 1 ≤ run (only 32) (b ∷ s) → at < p
      spaced l =
          let n = run (only 32) (b ∷ s) in
          let t = (seq_tame (char_ll dark).exact.moves (λ c. (ret_exact (take n (b ∷ s) ++ c)).moves)).tame (at + n) (drop n (b ∷ s)) in
          let g : seq_r (char_r dark) (λ c. ret_r (take n (b ∷ s) ++ c)) (at + n) (drop n (b ∷ s)) ≡ bad p =
          sym (ap (λ o. bind o (λ ss. seq_r (char_r dark) λ c. ret_r (ss ++ c))) (many_run (only 32) at (b ∷ s))) ∙ h in
          let k = tame_bad p t g in
          omega arith

      bare : is (only 32) b ≡ false → live (next dark start b) ≡ true → at < p
      bare x l =
          let o = run_l (next dark) full live s (next dark start b) (suc at) in
          let t = tamed_bind (λ c. ret_r ([] ++ c)) (tamed_fmap (b ∷◌) ((run_exact (next dark) full live (laws dark) (next dark start b) l).moves.tame (suc at) s)) (λ c. (ret_exact ([] ++ c)).moves) in
          let g : bind (fmap (b ∷◌) o) (λ c. ret_r ([] ++ c)) ≡ bad p = rw (x, l) at h in
          tame_bad p t g

      by : (x : Bool) → is (only 32) b ≡ x → at < p
      by true x = spaced (rw x (omega arith))
      by false x = bare x (row_live (table dark start) b refl (is_right (only 32) (Classes (table dark start)) b x e))

-- ALL THE PIECES: those up to i are read, and at most `turns` are left
pub record Along (doc : List ℕ) (at i : ℕ) : Type 0 where
  pub turns : ℕ
  pub joined : List (List ℕ) → List ℕ
  pub same : pieces_r at (drop at doc) ≡ fmap joined (star_r (is first_byte) piece_r turns i (drop i doc))
  pub enough : length doc ≤ turns + i
  pub behind : at ≤ i

fmap_cons : (g : List (List ℕ) → List ℕ) (v : List ℕ) (o : Out (List (List ℕ))) → fmap g (fmap (v ∷◌) o) ≡ fmap (λ vs. g (v ∷ vs)) o
fmap_cons g v (ok vs a t) = refl
fmap_cons g v (soft p vs a t) = refl
fmap_cons g v (bad p) = refl

pub along_first : (doc : List ℕ) (at : ℕ) → Along doc at at
along_first doc at =
    let l = length-drop at doc in
    record {
      turns = length (drop at doc);
      joined = cat;
      same = map_fmap cat (many_r (is first_byte) piece_r at (drop at doc));
      enough = omega arith;
      behind = omega arith;
    }

module _ (doc : List ℕ) (at i : ℕ) (a : Along doc at i) where
  ends_here : i ≤ length doc → star_r (is first_byte) piece_r a.turns i (drop i doc) ≡ ok [] i (drop i doc) → Ends doc at (pieces_r at (drop at doc)) i
  ends_here l h = record { value = a.joined []; is = a.same ∙ ap (fmap a.joined) h; behind = a.behind; inside = l }

  pub pieces_over : i ≤ length doc → length doc ≤ i → Ends doc at (pieces_r at (drop at doc)) i
  pieces_over l h = ends_here l (rw (drop_of_length-le doc h) (by a.turns))
    where
      by : (m : ℕ) → star_r (is first_byte) piece_r m i [] ≡ ok [] i []
      by zero = refl
      by (suc m) = refl

  module _ (l : i < length doc) where
    byte_here : drop i doc ≡ get_or doc i 0 ∷ drop (suc i) doc
    byte_here = drop-cons doc i 0 l

    -- one turn more
    turn : (m : ℕ) → a.turns ≡ m → (x : Bool) → is first_byte (get_or doc i 0) ≡ x
        → (n : ℕ) × (m ≡ suc n)
        × (star_r (is first_byte) piece_r a.turns i (drop i doc)
        ≡ pick x (bind (piece_r i (drop i doc)) (λ v a t. fmap (v ∷◌) (star_r (is first_byte) piece_r n a t))) (ok [] i (drop i doc)))
    turn zero e x f = absurd (omega (arith, a.enough))
    turn (suc n) e x f = (n, refl, rw (e, byte_here, f) refl)

    starts_not : piece_r i (drop i doc) ≡ bad i → is first_byte (get_or doc i 0) ≡ false
    starts_not h = by (is first_byte (get_or doc i 0)) refl
      where
        by : (x : Bool) → is first_byte (get_or doc i 0) ≡ x → x ≡ false
        by true e = absurd (omega (arith, piece_begins i (get_or doc i 0) (drop (suc i) doc) i e (ap (piece_r i) (sym byte_here) ∙ h)))
        by false e = refl

    starts : (piece_r i (drop i doc) ≡ bad i → ⊥) → is first_byte (get_or doc i 0) ≡ true
    starts h = by (is first_byte (get_or doc i 0)) refl
      where
        by : (x : Bool) → is first_byte (get_or doc i 0) ≡ x → x ≡ true
        by true e = refl
        by false e = absurd (h (ap (piece_r i) byte_here ∙ piece_none i (get_or doc i 0) (drop (suc i) doc) e))

    pub pieces_end : piece_r i (drop i doc) ≡ bad i → Ends doc at (pieces_r at (drop at doc)) i
    pieces_end h = ends_here (omega arith) (turn a.turns refl false (starts_not h)).2

    pub pieces_bad : (p : ℕ) → piece_r i (drop i doc) ≡ bad p → (p ≡ i → ⊥) → pieces_r at (drop at doc) ≡ bad p
    pieces_bad p h n =
        let f = starts (λ z. n (let y : ◌≡◌ {A = Out (List ℕ)} (bad p) (bad i) = sym h ∙ z in cc)) in
        let t = turn a.turns refl true f in
        a.same ∙ (ap (fmap a.joined) t.2 ∙ rw h refl)

    pub pieces_on : (n : ℕ) → Ends doc i (piece_r i (drop i doc)) n → Along doc at n
    pieces_on n e =
        let f = starts (λ z. let y : ◌≡◌ {A = ℕ} 0 1 = cc (e.is, z) in omega arith) in
        let t = turn a.turns refl true f in
        let g = piece_ahead doc i n e in
        record {
          turns = t.0;
          joined = λ vs. a.joined (e.value ∷ vs);
          same = a.same ∙ (ap (fmap a.joined) t.2 ∙ (rw e.is refl ∙ fmap_cons a.joined e.value (star_r (is first_byte) piece_r t.0 n (drop n doc))));
          enough = omega (arith, a.enough, t.1);
          behind = omega (arith, a.behind);
        }

-- the pieces up to i being read, those up to n are
pub record Smooth (doc : List ℕ) (i n : ℕ) : Type 0 where
  pub behind : i ≤ n
  pub inside : n ≤ length doc
  pub on : (at : ℕ) → Along doc at i → Along doc at n

pub smooth_none : (doc : List ℕ) (i : ℕ) → i ≤ length doc → Smooth doc i i
smooth_none doc i l = record { behind = omega arith; inside = l; on = λ at a. a }

pub smooth_more : (doc : List ℕ) (i m n : ℕ) → Smooth doc i m → m < length doc → Ends doc m (piece_r m (drop m doc)) n → Smooth doc i n
smooth_more doc i m n s l e =
    let g = piece_ahead doc m n e in
    record { behind = omega (arith, s.behind); inside = e.inside; on = λ at a. pieces_on doc at m (s.on at a) l n e }

-- the bytes from `at` on and below n are printable
unfoldable pub Printable : List ℕ → ℕ → ℕ → Type 0
Printable doc at n = (k : ℕ) → at ≤ k → k < n → (32 ≤ get_or doc k 0) × (get_or doc k 0 ≤ 126)

-- a block of them whose last is no space
pub record Block (doc : List ℕ) (at : ℕ) : Type 0 where
  pub bytes : Printable doc at (at + 64)
  pub dark : get_or doc (at + 63) 0 ≡ 32 → ⊥
