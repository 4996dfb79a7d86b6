use Rattle.co_sheet_adapt.proofs.pieces.Tables.of.Goals as goal

-- two tables that give the same at each key are the same function
pub returns : goal.returns
returns c = record {
  own = λ i k. c.in_ok-sections.ensures k i;
  names = λ i k. c.in_ok-of-2.ensures k i;
  values = λ i k. c.in_ok-of-3.ensures k i;
  pdos = c.in_ok-of.ensures;
}
