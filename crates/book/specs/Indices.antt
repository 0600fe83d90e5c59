-- Key numbers as natural numbers.
use Rattle.std.specs.Prelude.{ℕ, List, map}
use Rattle.keys.specs.declared.numbers.KeyNumber.{KeyNumber}

abbrev pub indices : List KeyNumber → List ℕ
indices ns = map (λ (n : KeyNumber). n.index) ns
