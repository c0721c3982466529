-- What a loop over the bytes of a character of 128 or more learns: where it ends and that a scalar value is spelt there, or the byte that refuses it.
-- Assumes nothing.
use Rattle.std.specs.Prelude.{◌≡◌, refl, List, [], ◌∷◌, ◌++◌, ◌⊎◌, Bool, true, false, ℕ, suc, ◌+◌, ◌≤◌, ◌<◌, length, take, drop, get_or, leb}
use Rattle.std.proofs.Common.{sym, ap, subst, ◌∙◌, append-nil, inl, inr, add-one, arith, drop_of_length-le, drop-cons, take-suc, length-take-le, leb-true, le-leb, eq-eqb, ne_eqb}
use Rattle.std.proofs.Math.Decide.{dec_le}
use Rattle.std.proofs.lemmas.List.{drop-append-le}
use Rattle.std.proofs.Math.Seq.{slice, slice_empty, slice-cons}
use Rattle.std.proofs.lemmas.Bool.{lt-leb}
use Rattle.exact.specs.Class.{Class, pick, clash, is, or_of}
use Rattle.exact.specs.Out.{Out, fmap, ok, bad}
use Rattle.exact.specs.Answers.{fmap_none, fmap_join}
use Rattle.exact.specs.Run.{steps, run_l}
use Rattle.language.specs.Characters.{ascii, character, utf8, wide}
use Rattle.utf8.specs.Utf8.{At, leads, follow, kind, lively, finished, live, full, next, start, done, dead, one_more, two_more, after_c2, after_e0, after_ed, after_ef, after_ef_b7, after_f0, after_f1, after_f4, plane_end, last, char_inside, char_r}
use Rattle.utf8.specs.Tails.{left_of, begun, followed, full_done, tail_step}
use Rattle.utf8.specs.States.{low_byte, lead_byte}
use Rattle.utf8.specs.Spelling.{Spelling, utf8_one}
use Rattle.utf8.proofs.SpellingLaws.{spell}
use Rattle.utf8.specs.Whole.{step, restart, whole_of, inside_step, outside_step}
use Rattle.utf8.specs.Scan.{rows, find, code, step_code, whole_code, live_code}
use Rattle.characters.specs.Reads.{Stands, Wide}

-- THE CLASS below 128 is not asked
next_same : (c d : Class) (σ : At) (b : ℕ) → 1 ≤ left_of σ → next c σ b ≡ next d σ b
next_same c d start b l = absurd (omega arith)
next_same c d done b l = refl
next_same c d dead b l = refl
next_same c d one_more b l = refl
next_same c d two_more b l = refl
next_same c d after_c2 b l = refl
next_same c d after_e0 b l = refl
next_same c d after_ed b l = refl
next_same c d after_ef b l = refl
next_same c d after_ef_b7 b l = refl
next_same c d after_f0 b l = refl
next_same c d after_f1 b l = refl
next_same c d after_f4 b l = refl
next_same c d plane_end b l = refl
next_same c d last b l = refl

run_done : (c : Class) (s : List ℕ) (at : ℕ) → run_l (next c) full live s done at ≡ ok [] at s
run_done c [] at = refl
run_done c (b ∷ s) at = refl

module _ (c d : Class) where
  run_same : (s : List ℕ) (σ : At) (at : ℕ) → (full σ ≡ true) ⊎ (leb 1 (left_of σ) ≡ true) → run_l (next c) full live s σ at ≡ run_l (next d) full live s σ at
  run_same [] σ at h = refl
  run_same (b ∷ s) σ at h = by h (λ τ. run_same s τ (suc at))
    where
      on : (l : 1 ≤ left_of σ) (x : Bool) → live (next d σ b) ≡ x
          → ((full (next d σ b) ≡ true) ⊎ (leb 1 (left_of (next d σ b)) ≡ true) → run_l (next c) full live s (next d σ b) (suc at) ≡ run_l (next d) full live s (next d σ b) (suc at))
          → pick x (fmap (b ∷◌) (run_l (next c) full live s (next d σ b) (suc at))) (pick (full σ) (ok [] at (b ∷ s)) (bad at))
          ≡ pick x (fmap (b ∷◌) (run_l (next d) full live s (next d σ b) (suc at))) (pick (full σ) (ok [] at (b ∷ s)) (bad at))
      on l true e ih = ap (fmap (b ∷◌)) (ih (or_of (full (next d σ b)) (leb 1 (left_of (next d σ b))) (tail_step d σ b l e).2))
      on l false e ih = refl

      by : (full σ ≡ true) ⊎ (leb 1 (left_of σ) ≡ true)
          → ((τ : At) → (full τ ≡ true) ⊎ (leb 1 (left_of τ) ≡ true) → run_l (next c) full live s τ (suc at) ≡ run_l (next d) full live s τ (suc at))
          → run_l (next c) full live (b ∷ s) σ at ≡ run_l (next d) full live (b ∷ s) σ at
      by (inl f) ih = rw (full_done σ f) refl
      by (inr l) ih =
          let k = leb-true 1 (left_of σ) l in
          rw (next_same c d σ b k) (on k (live (next d σ b)) refl (ih (next d σ b)))

  char_same : (at b : ℕ) (s : List ℕ) → 128 ≤ b → char_r c at (b ∷ s) ≡ char_r d at (b ∷ s)
  char_same at b s h = rw (lead_byte c b h, lead_byte d b h) (by (live (follow leads b)) refl)
    where
      by : (x : Bool) → live (follow leads b) ≡ x
          → pick x (fmap (b ∷◌) (run_l (next c) full live s (follow leads b) (suc at))) (bad at)
          ≡ pick x (fmap (b ∷◌) (run_l (next d) full live s (follow leads b) (suc at))) (bad at)
      by true e = ap (fmap (b ∷◌)) (run_same s (follow leads b) (suc at) (inr (followed (λ c σ. leb 1 (left_of σ)) leads b refl e).2))
      by false e = refl

-- a byte more
slice_snoc : (doc : List ℕ) (at i : ℕ) → at ≤ i → i < length doc → slice at (suc i) doc ≡ slice at i doc ++ get_or doc i 0 ∷ []
slice_snoc doc at i h l =
    let n = length-take-le i doc (omega arith) in
    ap (drop at) (take-suc doc i 0 l) ∙ drop-append-le at (take i doc) (get_or doc i 0 ∷ []) (omega arith)

steps_snoc : (w : List ℕ) (b : ℕ) (σ : At) → steps (next ascii) full live σ (w ++ b ∷ []) ≡ next ascii (steps (next ascii) full live σ w) b
steps_snoc [] b σ = refl
steps_snoc (x ∷ w) b σ = steps_snoc w b (next ascii σ x)

inside_code : (τ : At) → (code τ ≡ 0 → ⊥) → (code τ ≡ 1 → ⊥) → kind τ ≡ char_inside
inside_code start h k = refl
inside_code done h k = absurd (k refl)
inside_code dead h k = absurd (h refl)
inside_code one_more h k = refl
inside_code two_more h k = refl
inside_code after_c2 h k = refl
inside_code after_e0 h k = refl
inside_code after_ed h k = refl
inside_code after_ef h k = refl
inside_code after_ef_b7 h k = refl
inside_code after_f0 h k = refl
inside_code after_f1 h k = refl
inside_code after_f4 h k = refl
inside_code plane_end h k = refl
inside_code last h k = refl

code_live : (τ : At) → (code τ ≡ 0 → ⊥) → live τ ≡ true
code_live τ h = by (live τ) (live_code τ ∙ ne_eqb (code τ) 0 h)
  where
    by : (x : Bool) → pick x false true ≡ false → x ≡ true
    by true e = refl
    by false e = absurd (clash refl e)

code_dead : (τ : At) → code τ ≡ 0 → live τ ≡ false
code_dead τ h = by (live τ) (live_code τ ∙ eq-eqb (code τ) 0 h)
  where
    by : (x : Bool) → pick x false true ≡ true → x ≡ false
    by true e = absurd (clash e refl)
    by false e = refl

-- from inside a character, to its end
code_full : (σ : At) (b : ℕ) → kind σ ≡ char_inside → code (step σ b) ≡ 1 → full (step σ b) ≡ true
code_full σ b k e = by (dec_le 1 (left_of σ))
  where
    w : (live (step σ b) ≡ true) × (left_of (step σ b) ≡ 0)
    w = whole_of (step σ b) (whole_code (step σ b) ∙ eq-eqb (code (step σ b)) 1 e)

    end : (full (step σ b) ≡ true) ⊎ (leb 1 (left_of (step σ b)) ≡ true) → full (step σ b) ≡ true
    end (inl f) = f
    end (inr l) = absurd (omega (arith, leb-true 1 (left_of (step σ b)) l, w.1))

    by : Dec (1 ≤ left_of σ) → full (step σ b) ≡ true
    by (yes l) = end (or_of (full (step σ b)) (leb 1 (left_of (step σ b))) (inside_step σ b l w.0).3)
    by (no l) =
        let o = outside_step σ b (ap lively k) (omega arith) w.0 in
        end (or_of (full (step σ b)) (leb 1 (left_of (step σ b))) (subst (λ τ. begun τ ≡ true) (sym o.0) o.2))

-- ON THE WAY: the bytes from `at` up to i are the beginning of a character, and s is the state after them
pub record Going (doc : List ℕ) (at i s : ℕ) : Type 0 where
  pub state : At
  pub is_code : s ≡ code state
  pub inside : kind state ≡ char_inside
  pub behind : at ≤ i
  pub bytes : steps (next ascii) full live start (slice at i doc) ≡ state
  pub same : char_r ascii at (drop at doc) ≡ fmap (slice at i doc ++◌) (run_l (next ascii) full live (drop i doc) state i)

pub going_first : (doc : List ℕ) (at : ℕ) → Going doc at at 1
going_first doc at =
    record {
      state = start;
      is_code = refl;
      inside = refl;
      behind = omega arith;
      bytes = ap (steps (next ascii) full live start) (slice_empty at doc);
      same = sym (fmap_none (char_r ascii at (drop at doc))) ∙ ap (λ w. fmap (w ++◌) (char_r ascii at (drop at doc))) (sym (slice_empty at doc));
    }

module _ (doc : List ℕ) (at i s : ℕ) (g : Going doc at i s) where
  stopped : (o : Out (List ℕ)) → run_l (next ascii) full live (drop i doc) g.state i ≡ o → char_r ascii at (drop at doc) ≡ fmap (slice at i doc ++◌) o
  stopped o e = g.same ∙ ap (fmap (slice at i doc ++◌)) e

  not_full : full g.state ≡ false
  not_full = ap finished g.inside

  pub going_over : length doc ≤ i → char_r ascii at (drop at doc) ≡ bad i
  going_over h = stopped (bad i) (rw (drop_of_length-le doc h, not_full) refl)

  module _ (l : i < length doc) (r : ℕ) (e : r ≡ find rows s (get_or doc i 0)) where
    to_code : code (next ascii g.state (get_or doc i 0)) ≡ r
    to_code =
        ap (λ k. code (next ascii (restart k g.state) (get_or doc i 0))) (sym g.inside)
        ∙ (step_code g.state (get_or doc i 0) ∙ (ap (λ n. find rows n (get_or doc i 0)) (sym g.is_code) ∙ sym e))

    as_step : step g.state (get_or doc i 0) ≡ next ascii g.state (get_or doc i 0)
    as_step = ap (λ k. next ascii (restart k g.state) (get_or doc i 0)) g.inside

    byte_next : drop i doc ≡ get_or doc i 0 ∷ drop (suc i) doc
    byte_next = drop-cons doc i 0 l

    pub going_none : r ≡ 0 → char_r ascii at (drop at doc) ≡ bad i
    going_none z = stopped (bad i) (rw (byte_next, code_dead (next ascii g.state (get_or doc i 0)) (to_code ∙ z), not_full) refl)

    on_by : (r ≡ 0 → ⊥) → char_r ascii at (drop at doc) ≡ fmap (slice at (suc i) doc ++◌) (run_l (next ascii) full live (drop (suc i) doc) (next ascii g.state (get_or doc i 0)) (suc i))
    on_by z =
        stopped
        (fmap (get_or doc i 0 ∷◌) (run_l (next ascii) full live (drop (suc i) doc) (next ascii g.state (get_or doc i 0)) (suc i)))
        (rw (byte_next, code_live (next ascii g.state (get_or doc i 0)) (λ k. z (sym to_code ∙ k))) refl)
        ∙ (fmap_join (slice at i doc) (get_or doc i 0 ∷ []) (run_l (next ascii) full live (drop (suc i) doc) (next ascii g.state (get_or doc i 0)) (suc i))
        ∙ ap (λ w. fmap (w ++◌) (run_l (next ascii) full live (drop (suc i) doc) (next ascii g.state (get_or doc i 0)) (suc i))) (sym (slice_snoc doc at i g.behind l)))

    bytes_by : steps (next ascii) full live start (slice at (suc i) doc) ≡ next ascii g.state (get_or doc i 0)
    bytes_by =
        ap (steps (next ascii) full live start) (slice_snoc doc at i g.behind l)
        ∙ (steps_snoc (slice at i doc) (get_or doc i 0) start ∙ ap (λ σ. next ascii σ (get_or doc i 0)) g.bytes)

    pub going_more : (r ≡ 0 → ⊥) → (r ≡ 1 → ⊥) → Going doc at (i + 1) r
    going_more z o =
        rw add-one
        (record {
          state = next ascii g.state (get_or doc i 0);
          is_code = sym to_code;
          inside = inside_code (next ascii g.state (get_or doc i 0)) (λ k. z (sym to_code ∙ k)) (λ k. o (sym to_code ∙ k));
          behind = let h = g.behind in omega arith;
          bytes = bytes_by;
          same = on_by z;
        })

    ended : r ≡ 1 → full (next ascii g.state (get_or doc i 0)) ≡ true
    ended o = subst (λ τ. full τ ≡ true) as_step (code_full g.state (get_or doc i 0) g.inside (ap code as_step ∙ (to_code ∙ o)))

    word_read : r ≡ 1 → char_r ascii at (drop at doc) ≡ ok (slice at (suc i) doc) (suc i) (drop (suc i) doc)
    word_read o =
        on_by (λ z. omega arith)
        ∙ (ap (λ σ. fmap (slice at (suc i) doc ++◌) (run_l (next ascii) full live (drop (suc i) doc) σ (suc i))) (full_done (next ascii g.state (get_or doc i 0)) (ended o))
        ∙ (ap (fmap (slice at (suc i) doc ++◌)) (run_done ascii (drop (suc i) doc) (suc i)) ∙ ap (λ w. ok w (suc i) (drop (suc i) doc)) (append-nil (slice at (suc i) doc))))

    pub going_done : r ≡ 1 → 128 ≤ get_or doc at 0 → Wide doc at (i + 1)
    going_done o high = rw add-one (found (spell ascii (slice at (suc i) doc) (ap full bytes_by ∙ ended o)))
      where
        behind : at ≤ i
        behind = g.behind

        first : slice at (suc i) doc ≡ get_or doc at 0 ∷ slice (suc at) (suc i) doc
        first = slice-cons at (suc i) doc 0 (omega arith) (omega arith)

        lead : drop at doc ≡ get_or doc at 0 ∷ drop (suc at) doc
        lead = drop-cons doc at 0 (omega arith)

        above : (p : Spelling ascii (slice at (suc i) doc)) → Dec (p.value ≤ 127) → 127 < p.value
        above p (yes h) =
            let z : p.value ≡ get_or doc at 0 = ap (λ w. get_or w 0 0) (sym (utf8_one p.value h) ∙ (p.bytes ∙ first)) in
            absurd (omega arith)
        above p (no h) = omega arith

        found : Spelling ascii (slice at (suc i) doc) → Wide doc at (suc i)
        found p =
            let h = above p (dec_le p.value 127) in
            let w : wide p.value ≡ true = rw (lt-leb p.value 127 h) at p.allowed in
            let c : (plain : Class) → character plain p.value ≡ true = λ plain. rw (lt-leb p.value 127 h) w in
            record {
              value = p.value;
              high = h;
              stands =
                  record {
                    ahead = omega arith;
                    inside = omega arith;
                    bytes = sym p.bytes;
                    allowed = λ _. w;
                    taken = λ plain.
                        ap (char_r plain at) lead
                        ∙ (char_same plain ascii at (get_or doc at 0) (drop (suc at) doc) high
                        ∙ (ap (char_r ascii at) (sym lead)
                        ∙ (word_read o
                        ∙ (ap (λ u. ok u (suc i) (drop (suc i) doc)) (sym p.bytes)
                        ∙ ap (λ x. pick x (ok (utf8 p.value) (suc i) (drop (suc i) doc)) (bad at)) (sym (c plain))))));
                  };
            }

-- below 128 a byte is a character where its class has it
pub low_stands : (doc : List ℕ) (at b : ℕ) → at < length doc → b ≡ get_or doc at 0 → b < 128 → Stands doc at b (at + 1)
low_stands doc at b l e h =
    rw add-one
    (record {
      ahead = omega arith;
      inside = omega arith;
      bytes = slice-cons at (suc at) doc 0 (omega arith) (omega arith) ∙ (ap (get_or doc at 0 ∷◌) (slice_empty (suc at) doc) ∙ (ap (◌∷ []) (sym e) ∙ sym (utf8_one b low)));
      allowed = λ k. absurd (omega arith);
      taken = λ plain.
          ap (char_r plain at) (drop-cons doc at 0 l ∙ ap (◌∷ drop (suc at) doc) (sym e))
          ∙ (rw (low_byte plain b low) (by plain (is plain b)) ∙ sym (same plain));
    })
  where
    low : b ≤ 127
    low = omega arith

    same : (plain : Class) → pick (character plain b) (ok (utf8 b) (suc at) (drop (suc at) doc)) (bad at) ≡ pick (is plain b) (ok (b ∷ []) (suc at) (drop (suc at) doc)) (bad at)
    same plain = rw (le-leb b 127 low) refl

    by : (plain : Class) (x : Bool)
        → pick (live (pick x done dead)) (fmap (b ∷◌) (run_l (next plain) full live (drop (suc at) doc) (pick x done dead) (suc at))) (bad at)
        ≡ pick x (ok (b ∷ []) (suc at) (drop (suc at) doc)) (bad at)
    by plain true = ap (fmap (b ∷◌)) (run_done plain (drop (suc at) doc) (suc at))
    by plain false = refl

-- refused for every class
pub wide_refused : (doc : List ℕ) (at p : ℕ) → at < length doc → 128 ≤ get_or doc at 0 → char_r ascii at (drop at doc) ≡ bad p
    → (plain : Class) → char_r plain at (drop at doc) ≡ bad p
wide_refused doc at p l h e plain =
    let c = drop-cons doc at 0 l in
    ap (char_r plain at) c ∙ (char_same plain ascii at (get_or doc at 0) (drop (suc at) doc) h ∙ (ap (char_r ascii at) (sym c) ∙ e))
