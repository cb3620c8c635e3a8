-- Objects as a device holds them, and their one spelling as bytes (Part 1, "Object Structure Elements"), which is this project's own
-- profile.
use Rattle.std.specs.Prelude.{◌≡◌, ℕ, List, ◌≤◌, ◌++◌, length, bytes_eq, Ok}
use Rattle.tab_spec.specs.declared.TheConstants.{RC_SIZE}
use Rattle.tab_spec.specs.Values.{Public, public_bytes, sized_bytes, Reading, enclosed, public_of, sized_exactly, sized_within, ◌>>=◌, require, without_zeros, IsPublic}

-- an object as a device holds it (Part 1, "Object Structure Elements")
pub record Object : Type 0 where
  pub public : Public
  pub auth : List ℕ
  pub seed : List ℕ
  pub secret : List ℕ
  pub qualified_name : List ℕ

abbrev pub object_bytes : Object → List ℕ
object_bytes o = sized_bytes (public_bytes o.public) ++ sized_bytes o.auth ++ sized_bytes o.seed ++ sized_bytes o.secret ++ sized_bytes o.qualified_name

abbrev pub object_of : List ℕ → Reading Object
object_of bytes = do
  (public, rest) ← enclosed public_of RC_SIZE bytes
  (auth, rest) ← require (λ auth. bytes_eq (without_zeros auth) auth) RC_SIZE (sized_within 32 rest)
  (seed, rest) ← sized_exactly 32 rest
  (secret, rest) ← sized_within 128 rest
  (qualified_name, rest) ← sized_exactly 34 rest
  Ok (record { public = public; auth = auth; seed = seed; secret = secret; qualified_name = qualified_name }, rest)

-- an object that a device of this profile may hold
pub record IsObject (o : Object) : Type 0 where
  pub public : IsPublic o.public
  pub auth_short : length o.auth ≤ 32
  pub auth_bare : without_zeros o.auth ≡ o.auth
  pub seed : length o.seed ≡ 32
  pub secret : length o.secret ≤ 128
  pub qualified_name : length o.qualified_name ≡ 34
