mod Asked
mod Knowing
mod Telling
