use Rattle.brd_places.proofs.kept.put_in.Goals as goal

pub put_back-requires-clause-alike : goal.put_back-requires-clause-alike
put_back-requires-clause-alike c = record {
  size = c.is_alike.ensures.sizes c.if-is_alike.true;
  order = c.is_alike.ensures.orders c.if-is_alike.true;
}
