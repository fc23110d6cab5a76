pub mod ScalarLawProofs
