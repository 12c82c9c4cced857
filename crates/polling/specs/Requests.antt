-- The struct's fields as 01 names them, and the struct of these values.
use Rattle.rules.specs.Store.{Requests as Values}
use Rattle.polling.specs.declared.Requests.{Requests}

abbrev pub requests_of : Requests → Values
requests_of q = record {
  wanted_flag = q.wanted_flag;
  held_flag = q.held_flag;
  failures = q.failures;
  fixed_at = q.fixed_at;
  update_at = q.update_at;
}

abbrev pub requests_from : Values → Requests
requests_from q = record {
  wanted_flag = q.wanted_flag;
  held_flag = q.held_flag;
  failures = q.failures;
  fixed_at = q.fixed_at;
  update_at = q.update_at;
}
