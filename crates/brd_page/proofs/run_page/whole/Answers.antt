use Rattle.brd_page.proofs.run_page.whole.Goals as goal

pub returns-clause-page : goal.returns-clause-page
returns-clause-page c = λ boot events from to drawn told. record {
  picture = c.args.picture.now;
  json = c.args.json.now;
  is_page = rw (c.as_bytes.ensures.value, c.as_bytes-2.ensures.value, c.as_bytes-3.ensures.value) at c.in_ok-page.ensures;
  drawn = drawn;
  told = told;
}
