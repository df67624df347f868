-- One sweep of a run by what it finds.
mod Swept
