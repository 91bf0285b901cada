-- What serde_json reads of bytes.
use Rattle.std.proofs.Common.{◌≡◌, ℕ, List, Option, Some, None, refl, true, false, Bool, cond}
use Rattle.std.proofs.lemmas.Str.{is_utf8-from_IsUtf8, IsUtf8-from_is_utf8}
use Rattle.std.specs.Str.{IsUtf8, is_utf8}
use Rattle.serde_json.specs.Data.{Data}
use Rattle.serde_json.specs.Read.{read}
use Rattle.dc_choice.specs.Reading.{reading}

pub reading-read : (bytes : List ℕ) (d : Data) → IsUtf8 bytes → read bytes ≡ Some d → reading bytes ≡ Some d
reading-read bytes d u r = rw (is_utf8-from_IsUtf8 bytes u) r

none_by : (b : Bool) (r : Option Data) → (b ≡ true → r ≡ None) → cond b r None ≡ None
none_by true r f = f refl
none_by false r f = refl

pub reading-none : (bytes : List ℕ) → (IsUtf8 bytes → read bytes ≡ None) → reading bytes ≡ None
reading-none bytes f = none_by (is_utf8 bytes) (read bytes) (λ e. f (IsUtf8-from_is_utf8 bytes e))
