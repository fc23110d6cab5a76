mod ArgumentLemmas
mod TurnLemmas
