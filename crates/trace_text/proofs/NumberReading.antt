-- A number's text is UTF-8, and is parsed as the number.
use Rattle.std.proofs.Common.{◌≡◌, ℕ, ◌<◌, ◌^◌, List, decimal, Result, Ok, arith}
use Rattle.std.specs.Str.{IsUtf8}
use Rattle.std.specs.Str.Parse.{ParsesUnsigned}
use Rattle.std.proofs.lemmas.Str.{IsUtf8-from_ascii}
use Rattle.std.proofs.lemmas.Fmt.{IsAscii-decimal, parse-decimal}

pub number-text : (number : ℕ) → number < 2 ^ 32 → IsUtf8 (decimal number)
number-text number lt = IsUtf8-from_ascii (decimal number) (IsAscii-decimal number (omega (arith, lt)))

pub number-parsed : {E : Type 0} (number : ℕ) (bytes : List ℕ) (parsed : Result ℕ E) → number < 2 ^ 32 → bytes ≡ decimal number
    → ParsesUnsigned 32 10 bytes parsed → parsed ≡ Ok number
number-parsed number bytes parsed lt is h = parse-decimal 32 number bytes parsed lt (omega (arith, lt)) is h
