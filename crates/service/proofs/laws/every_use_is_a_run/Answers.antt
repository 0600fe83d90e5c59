-- The theorems are the lemmas `steps_run` and `law_holds`.
use Rattle.law.proofs.Law.{law_holds}
use Rattle.law.proofs.Steps.{steps_run}
use Rattle.service.specs.Represents.{Represents}
use Rattle.service.proofs.laws.every_use_is_a_run.Goals as goal

pub returns : goal.returns
returns g c = record {
  runs = λ slots.
      steps_run (record { same = g.K.Key.same; reading = g.K.Written.reading }) slots
      (Represents (record { same = g.K.Key.same; reading = g.K.Written.reading }) slots);
  law = law_holds _ (record { same = g.K.Key.same; reading = g.K.Written.reading });
}
