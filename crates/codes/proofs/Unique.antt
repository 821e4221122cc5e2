-- Each C name's statement leaves one outcome. Assumes nothing.
use mathlib.Core.Path.{sym, ◌∙◌}
use Rattle.codes.specs.Unique.{Unique}
use Rattle.codes.proofs.Steps.{taken-one}

pub unique : Unique
unique = record {
  verdicts = λ v r r' e e'. e ∙ sym e';
  fills = λ z after r r' b b' w w'. record { answer = w.answers ∙ sym w'.answers; bytes = w.leaves ∙ sym w'.leaves };
  told = λ n m words out r r' b b' w w'. record { answer = w.answers ∙ sym w'.answers; bytes = w.leaves ∙ sym w'.leaves };
  leaves = λ o row r r' b b' w w'. record { answer = w.answers ∙ sym w'.answers; bytes = w.after ∙ sym w'.after };
  besides = λ code words out r r' b b' w w'. record { answer = w.answers ∙ sym w'.answers; bytes = w.leaves ∙ sym w'.leaves };
  appends = λ z after out r r' room room' b b' w w'.
      (record { answer = w.tells.answers ∙ sym w'.tells.answers; bytes = w.tells.leaves ∙ sym w'.tells.leaves }, w.leaves ∙ sym w'.leaves);
  adds = λ t s r r' b b' w w'. record { answer = w.answers ∙ sym w'.answers; bytes = w.leaves ∙ sym w'.leaves };
  path = taken-one;
}
