-- What is drawn at once and in two steps.
use Rattle.std.proofs.Common.{◌≡◌, ◌≤◌, add-suc, ◌+◌, ◌*◌, ℕ, zero, suc, Bool, true, false, List, ◌++◌, length, take, drop, refl, sym, ap, ◌∙◌, arith, add-zero, append-nil, append_assoc, length-append}
use Rattle.std.specs.Prelude.{nat_le, Result, Ok, Err, if◌then◌else◌}
use Rattle.std.specs.Int.{w32, to_le_bytes}
use Rattle.rand_chacha.specs.ChaCha.{word_at, key_of}
use Rattle.std.proofs.Math.Seq.{take-append-add}
use Rattle.std.proofs.lemmas.Bool.{leb-true, le-leb}
use Rattle.std.proofs.lemmas.List.{take_all, take_at, drop_at}
use Rattle.tab_spec.specs.declared.TheConstants.{LAST_PLACE, RC_FAILURE}
use Rattle.effect_spec.specs.Objects.{Template, secret_size, child_of, child_with, child_from}
use Rattle.tab_spec.specs.Values.{makes_secret}
use Rattle.tab_spec.specs.Object.{Object}
use Rattle.tab_spec.specs.Persist.{Persist, stream_bytes, words_for, random_bytes, drawn}

length_stream : (seed : List ℕ) (place words : ℕ) → length (stream_bytes seed place words) ≡ 4 * words
unfolding stream_bytes
length_stream seed place zero = refl
length_stream seed place (suc words) = simp length-append (omega (arith, length_stream seed place words))

stream_more : (seed : List ℕ) (place a b : ℕ) → stream_bytes seed place (a + b) ≡ stream_bytes seed place a ++ stream_bytes seed (place + a) b
unfolding stream_bytes
stream_more seed place a zero = rw (add-zero, append-nil) refl
stream_more seed place a (suc b) =
    let word : ℕ → List ℕ = λ n. to_le_bytes w32 (word_at 10 (key_of seed) 0 n) in
    let far : place + (a + b) ≡ place + a + b = omega arith in
    rw add-suc (ap (λ (xs : List ℕ). xs ++ word (place + (a + b))) (stream_more seed place a b)
    ∙ append_assoc (stream_bytes seed place a) (stream_bytes seed (place + a) b) (word (place + (a + b)))
    ∙ ap (λ (n : ℕ). stream_bytes seed place a ++ (stream_bytes seed (place + a) b ++ word n)) far)

-- so many bytes after eight words
random_more : (seed : List ℕ) (place n : ℕ) → random_bytes seed place (32 + n) ≡ random_bytes seed place 32 ++ random_bytes seed (place + 8) n
random_more seed place n =
    let front = stream_bytes seed place 8 in
    let after = stream_bytes seed (place + 8) (words_for n) in
    let many : words_for (32 + n) ≡ 8 + words_for n = omega arith in
    let long : length front ≡ 32 = length_stream seed place 8 in
    let count : 32 + n ≡ length front + n = omega arith in
    let whole : random_bytes seed place 32 ≡ front = take_all 32 front (omega arith) in
    ap (λ (words : ℕ). take (32 + n) (stream_bytes seed place words)) many
    ∙ ap (take (32 + n)) (stream_more seed place 8 (words_for n))
    ∙ ap (λ (m : ℕ). take m (front ++ after)) count
    ∙ take-append-add front after n
    ∙ ap (λ (xs : List ℕ). xs ++ take n after) (sym whole)

length_seed : (seed : List ℕ) (place : ℕ) → length (random_bytes seed place 32) ≡ 32
length_seed seed place =
    let front = stream_bytes seed place 8 in
    let long : length front ≡ 32 = length_stream seed place 8 in
    let whole : random_bytes seed place 32 ≡ front = take_all 32 front (omega arith) in
    ap length whole ∙ long

-- what a draw gives where it is one, and else that it fails
abbrev at_place : Persist → ℕ → Persist
at_place p words = record p { place = p.place + words }

abbrev drawn_if : Bool → Persist → ℕ → Result (List ℕ × Persist) ℕ
drawn_if fits p n = if fits then Ok (random_bytes p.seed p.place n, at_place p (words_for n)) else Err RC_FAILURE

gives_once : (r : Result (List ℕ × Persist) ℕ) (a b : List ℕ) (p q : Persist) → r ≡ Ok (a, p) → r ≡ Ok (b, q) → (b ≡ a) × (q ≡ p)
gives_once r a b p q one another =
    let first : List ℕ × Persist = (a, p) in
    let second : List ℕ × Persist = (b, q) in
    let same : second ≡ first = cc in
    (ap (λ (x : List ℕ × Persist). x.0) same, ap (λ (x : List ℕ × Persist). x.1) same)

draw_fits : (p : Persist) (n : ℕ) (bytes : List ℕ) (q : Persist) (fits : Bool) → drawn_if fits p n ≡ Ok (bytes, q)
    → (fits ≡ true) × (bytes ≡ random_bytes p.seed p.place n) × (q ≡ at_place p (words_for n))
draw_fits p n bytes q true is =
    let both = gives_once (drawn_if true p n) (random_bytes p.seed p.place n) bytes (at_place p (words_for n)) q refl is in
    (refl, both.0, both.1)
draw_fits p n bytes q false is = absurd cc

fits_of : (p : Persist) (n : ℕ) → p.place + words_for n ≤ LAST_PLACE → drawn p n ≡ Ok (random_bytes p.seed p.place n, at_place p (words_for n))
fits_of p n le = let test = le-leb (p.place + words_for n) LAST_PLACE le in rw test refl

-- a child whose secret is drawn, from the bytes of its seed and its secret
pub child_drawn : (p : Persist) (parent : Object) (t : Template) (n : ℕ) (bytes : List ℕ) (q : Persist) → makes_secret t.public ≡ true → n ≡ secret_size t.public
    → drawn p (32 + n) ≡ Ok (bytes, q) → child_of p parent t ≡ Ok (child_with parent t (take 32 bytes) (drop 32 bytes, q))
child_drawn p parent t n bytes q makes size is =
    let facts = draw_fits p (32 + n) bytes q (nat_le (p.place + words_for (32 + n)) LAST_PLACE) is in
    let within : p.place + words_for (32 + n) ≤ LAST_PLACE = leb-true (p.place + words_for (32 + n)) LAST_PLACE facts.0 in
    let seed = random_bytes p.seed p.place 32 in
    let secret = random_bytes p.seed (p.place + 8) n in
    let all : bytes ≡ seed ++ secret = facts.1 ∙ random_more p.seed p.place n in
    let front : seed ≡ take 32 bytes = sym (ap (take 32) all ∙ take_at seed secret 32 (length_seed p.seed p.place)) in
    let after : secret ≡ drop 32 bytes = sym (ap (drop 32) all ∙ drop_at seed secret 32 (length_seed p.seed p.place)) in
    let first : drawn p 32 ≡ Ok (seed, at_place p 8) = fits_of p 32 (omega arith) in
    let second : drawn (at_place p 8) n ≡ Ok (secret, at_place (at_place p 8) (words_for n)) = fits_of (at_place p 8) n (omega arith) in
    let far : p.place + 8 + words_for n ≡ p.place + words_for (32 + n) = omega arith in
    let left : at_place (at_place p 8) (words_for n) ≡ q = ap (λ (place : ℕ). record p { place = place }) far ∙ sym facts.2 in
    ap (child_from parent t) first ∙ rw (makes, ← size, second, front, after, left) refl

-- and a child whose secret is given
pub child_given : (p : Persist) (parent : Object) (t : Template) (seed : List ℕ) (q : Persist) → makes_secret t.public ≡ false → drawn p 32 ≡ Ok (seed, q)
    → child_of p parent t ≡ Ok (child_with parent t seed (t.sensitive.content, q))
child_given p parent t seed q gives is = ap (child_from parent t) is ∙ rw gives refl
